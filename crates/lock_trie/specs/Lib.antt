pub mod Names
pub mod Holders
pub mod Kept
pub mod Held
pub mod laws
