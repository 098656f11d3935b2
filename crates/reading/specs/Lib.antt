pub mod Sectors
pub mod Words
