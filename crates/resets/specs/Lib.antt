pub mod Resets
pub mod Control
