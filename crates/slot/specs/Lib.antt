pub mod States
pub mod Layout
pub mod Log
pub mod Opened
