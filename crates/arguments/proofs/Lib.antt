pub mod Said
pub mod Readings
pub mod Cases
pub mod Unique
pub mod Sizes
