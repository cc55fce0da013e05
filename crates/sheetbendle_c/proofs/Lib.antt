pub mod Small
pub mod Unique
pub mod Cases
