pub mod Again
pub mod Cases
pub mod Good
pub mod Programs
pub mod Unique
pub mod Whole
