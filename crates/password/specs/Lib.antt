pub mod Passwords
