pub mod Prefix
pub mod Opened
