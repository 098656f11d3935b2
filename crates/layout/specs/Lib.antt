pub mod Stored
pub mod Bytes
