pub mod Naming
pub mod Refusals
pub mod Says
pub mod Unique
pub mod Cases
pub mod RefusalCases
