pub mod Front
pub mod Sums
pub mod Columns
pub mod Statements
pub mod laws
