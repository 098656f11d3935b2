pub mod Copies
pub mod Comparing
pub mod WordLaws
pub mod SectorLaws
pub mod PasswordLaws
