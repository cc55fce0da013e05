pub mod Signed
pub mod Guards
pub mod Opened
