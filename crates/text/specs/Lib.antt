pub mod Ascii
pub mod Decimal
pub mod Filled
pub mod Writing
pub mod Paper
pub mod Opened
