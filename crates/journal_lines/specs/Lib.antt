pub mod Steps
pub mod Journals
pub mod Places
pub mod Statements
pub mod laws
