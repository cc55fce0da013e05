pub mod Layout
pub mod Marks
pub mod Checks
pub mod Opened
pub mod Sketch
