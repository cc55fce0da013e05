pub mod Causes
pub mod Why
pub mod Opened
