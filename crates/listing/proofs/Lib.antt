pub mod Gathered
pub mod Reading
pub mod Pieces
