pub mod Opened
pub mod Gathered
pub mod Named
pub mod Writing
