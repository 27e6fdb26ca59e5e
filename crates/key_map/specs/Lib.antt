pub mod Members
pub mod laws
