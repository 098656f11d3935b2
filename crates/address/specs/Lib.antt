pub mod Registers
pub mod Address
