pub mod Empty
pub mod laws
