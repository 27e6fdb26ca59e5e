pub mod Blocks
pub mod Groups
pub mod Lines
pub mod Reports
pub mod Seen
pub mod SoFar
pub mod Timeouts
pub mod laws
