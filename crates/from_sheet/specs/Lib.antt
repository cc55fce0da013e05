pub mod FromSheet
pub mod Passes
pub mod Lines
pub mod WrongLines
pub mod Opened
