pub mod Next
pub mod Sources
pub mod Opened
