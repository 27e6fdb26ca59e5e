pub mod Codes
pub mod Counted
pub mod Rows
pub mod Tables
pub mod TableStatements
