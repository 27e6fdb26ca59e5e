pub mod Lines
pub mod Settings
pub mod Pending
pub mod Loaded
pub mod Statements
pub mod laws
