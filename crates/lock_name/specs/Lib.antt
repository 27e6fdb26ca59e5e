pub mod Locks
pub mod LockStatements
pub mod laws
