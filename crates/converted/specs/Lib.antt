pub mod Converted
pub mod Opened
