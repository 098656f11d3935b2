pub mod Lending
pub mod Settings
