pub mod Quick
pub mod Words
pub mod Open
pub mod Parts
