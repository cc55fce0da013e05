pub mod Reasons
pub mod Opened
