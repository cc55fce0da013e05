pub mod Prefixes
pub mod Unique
pub mod Cases
pub mod ReadBack
