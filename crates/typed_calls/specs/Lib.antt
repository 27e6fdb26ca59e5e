pub mod Commands
pub mod Looks
pub mod Spelled
pub mod Typed
