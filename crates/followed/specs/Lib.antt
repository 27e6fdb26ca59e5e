pub mod Following
pub mod laws
