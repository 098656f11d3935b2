pub mod Others
pub mod Gate
