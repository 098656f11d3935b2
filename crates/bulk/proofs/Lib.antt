pub mod Few
pub mod Reading
pub mod Writing
