pub mod SecurityWord
pub mod Words
pub mod Identify
