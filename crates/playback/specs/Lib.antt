pub mod Replay
pub mod Loops
