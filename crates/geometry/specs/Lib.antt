pub mod Geometry
pub mod Translation
