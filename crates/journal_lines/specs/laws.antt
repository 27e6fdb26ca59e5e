pub mod Spelled
pub mod Places
pub mod Plain
pub mod Askable
