pub mod Batches
pub mod Pages
pub mod Unique
pub mod Cases
pub mod Sizes
