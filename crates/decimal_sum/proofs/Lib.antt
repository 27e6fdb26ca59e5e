pub mod Ones
pub mod Fronts
pub mod Places
pub mod Sides
pub mod Zeros
