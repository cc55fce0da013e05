pub mod Calls
pub mod Cases
pub mod Checks
pub mod Places
pub mod Programs
pub mod RoundTrip
pub mod Undoing
pub mod Refusing
