pub mod Quick
pub mod Dev
