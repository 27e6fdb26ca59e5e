pub mod Exports
pub mod Held
pub mod Keys
pub mod Sessions
pub mod SessionLocks
pub mod Several
pub mod Texts
