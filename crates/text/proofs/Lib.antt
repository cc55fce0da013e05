pub mod Writing
pub mod Pages
pub mod Decimals
pub mod Reading
pub mod Fillings
pub mod Cases
pub mod Unique
