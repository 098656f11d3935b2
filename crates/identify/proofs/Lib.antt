pub mod Filling
pub mod ReadBack
pub mod Texts
pub mod Listed
pub mod SecurityBits
pub mod SecurityNumbers
