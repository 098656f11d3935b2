pub mod Records
pub mod Replies
