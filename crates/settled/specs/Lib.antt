pub mod Identity
pub mod Settled
pub mod Setup
