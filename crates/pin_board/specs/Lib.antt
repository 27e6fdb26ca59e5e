pub mod Slips
pub mod Views
pub mod Rule
pub mod Steps
pub mod Tally
pub mod Named
