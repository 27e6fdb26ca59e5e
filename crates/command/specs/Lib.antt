pub mod Data
pub mod Replies
