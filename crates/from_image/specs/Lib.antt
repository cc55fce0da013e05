pub mod FromImage
pub mod Longest
pub mod Typing
pub mod Opened
