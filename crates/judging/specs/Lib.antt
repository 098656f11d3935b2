pub mod Passwords
pub mod Judging
