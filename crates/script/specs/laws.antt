pub mod Commands
pub mod Line
pub mod Locking
pub mod Words
pub mod Operands
