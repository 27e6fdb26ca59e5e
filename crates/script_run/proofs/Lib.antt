pub mod Exact
pub mod Flags
pub mod Halts
pub mod Runs
pub mod Stands
pub mod Stopped
pub mod Refused
pub mod Replies
