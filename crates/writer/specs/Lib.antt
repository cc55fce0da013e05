pub mod Joined
pub mod Picked
pub mod Writing
pub mod Opened
