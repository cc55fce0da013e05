pub mod Pages
pub mod GuardFaults
pub mod Short
pub mod Unique
pub mod Cases
pub mod Sizes
