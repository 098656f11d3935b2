pub mod Lent
pub mod Setup
