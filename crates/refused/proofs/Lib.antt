pub mod Lines
pub mod Wheres
pub mod Cases
pub mod WhereCases
pub mod Unique
pub mod Sizes
