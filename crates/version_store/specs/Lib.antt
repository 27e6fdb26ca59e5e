pub mod laws
pub mod Held
pub mod Killed
pub mod Noted
pub mod Tied
pub mod Versions
