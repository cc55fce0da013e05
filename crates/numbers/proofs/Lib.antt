pub mod Unique
pub mod Taken
pub mod Cases
