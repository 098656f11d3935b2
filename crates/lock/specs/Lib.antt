pub mod Lock
pub mod Passwords
