pub mod Bytes
pub mod Listing
pub mod laws
