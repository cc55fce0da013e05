pub mod Prefixes
pub mod Cases
pub mod Unique
pub mod Sizes
