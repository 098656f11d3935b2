pub mod Setup
pub mod Alone
pub mod Host
