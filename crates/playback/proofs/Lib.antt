pub mod Playing
pub mod Carrying
pub mod Samples
