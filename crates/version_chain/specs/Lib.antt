pub mod Chains
pub mod Cut
pub mod laws
pub mod Links
pub mod Slots
pub mod Tidy
pub mod Versions
