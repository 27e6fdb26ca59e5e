pub mod Turn
pub mod Statements
