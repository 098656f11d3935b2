pub mod Words
pub mod Blocks
pub mod Bulk
