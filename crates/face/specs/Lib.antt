pub mod Registers
pub mod Face
pub mod Reads
pub mod Writes
pub mod Ends
pub mod Setup
