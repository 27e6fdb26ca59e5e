pub mod Chains
pub mod Cut
pub mod Versions
