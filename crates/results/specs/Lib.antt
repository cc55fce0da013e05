pub mod Listing
pub mod Opened
