pub mod Signs
pub mod Lengths
pub mod Unique
pub mod Cases
