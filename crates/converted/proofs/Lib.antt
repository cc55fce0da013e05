pub mod Pages
pub mod Cases
pub mod Unique
pub mod Sizes
