pub mod Sentences
pub mod Opened
