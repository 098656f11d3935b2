pub mod Stores
pub mod Sizes
pub mod Prefixes
pub mod Rest
