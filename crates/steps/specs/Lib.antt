pub mod Answers
pub mod Opening
pub mod Gathering
pub mod Settling
pub mod Opened
