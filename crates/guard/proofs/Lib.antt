pub mod Laws
pub mod Admitted
pub mod Unique
pub mod Cases
