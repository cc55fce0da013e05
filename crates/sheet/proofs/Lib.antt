pub mod Parts
pub mod Names
pub mod ReadingLines
pub mod Cases
pub mod Lines
pub mod Sheets
pub mod Splits
pub mod Sizes
