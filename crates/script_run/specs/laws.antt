pub mod Lines
pub mod Cut
pub mod Good
pub mod Outcomes
