pub mod Layering
pub mod Changing
