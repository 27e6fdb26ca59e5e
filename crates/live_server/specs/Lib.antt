pub mod Live
pub mod Desks
pub mod Faults
pub mod Runs
pub mod Relays
