pub mod Order
pub mod Listing
pub mod Masks
pub mod Readers
pub mod Opened
