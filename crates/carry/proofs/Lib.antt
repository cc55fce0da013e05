pub mod Cases
pub mod Checks
pub mod Nexts
pub mod Sources
pub mod Pieces
pub mod Choosing
pub mod Unique
