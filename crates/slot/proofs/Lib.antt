pub mod ListKinds
pub mod Places
pub mod Logs
pub mod Slots
pub mod Noted
pub mod Unique
pub mod Cases
