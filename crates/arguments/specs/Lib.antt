pub mod Kinds
pub mod Readings
pub mod Words
pub mod Opened
