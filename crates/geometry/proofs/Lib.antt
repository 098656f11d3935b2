pub mod Limits
pub mod Translations
