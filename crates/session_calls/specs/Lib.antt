pub mod Steps
pub mod Calls
pub mod Endings
pub mod Looks
