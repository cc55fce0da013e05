pub mod Cases
pub mod Lines
pub mod Sheets
pub mod Checks
pub mod Longest
pub mod Unique
