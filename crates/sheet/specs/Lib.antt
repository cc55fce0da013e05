pub mod Split
pub mod Sheet
pub mod Reading
pub mod Answers
pub mod Opened
