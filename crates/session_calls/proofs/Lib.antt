pub mod Crossing
pub mod Looked
