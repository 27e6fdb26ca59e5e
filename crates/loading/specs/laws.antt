pub mod Before
pub mod Plain
pub mod Lines
pub mod Nodes
pub mod Reading
pub mod Databases
pub mod Listings
