pub mod Short
pub mod Unique
pub mod Cases
pub mod Sizes
