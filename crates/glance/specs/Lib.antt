pub mod Places
pub mod Glances
