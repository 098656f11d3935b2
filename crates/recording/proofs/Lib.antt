pub mod Keeping
pub mod Taking
pub mod Whole
pub mod Streaming
