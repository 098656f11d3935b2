pub mod Glancing
