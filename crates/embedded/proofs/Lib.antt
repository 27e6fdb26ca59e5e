mod Ends
mod Given
mod Nodes
mod Siblings
mod Starts
mod Walked
pub mod Refused
