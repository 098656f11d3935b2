pub mod Words
pub mod Sectors
pub mod Passwords
