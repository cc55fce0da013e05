pub mod Refused
pub mod Where
pub mod Opened
