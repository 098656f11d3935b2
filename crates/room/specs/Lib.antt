pub mod Blocks
pub mod Started
pub mod Guest
pub mod Claims
pub mod TwelveNumbers
