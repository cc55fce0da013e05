pub mod Asks
pub mod Runs
pub mod Opened
