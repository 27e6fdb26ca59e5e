pub mod Layers
pub mod Changes
pub mod Copies
pub mod laws
