pub mod Batch
pub mod Runs
pub mod Opened
