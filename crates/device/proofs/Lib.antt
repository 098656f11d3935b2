pub mod FastStep
pub mod Memories
