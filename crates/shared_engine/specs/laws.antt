pub mod Prefixes
pub mod Seen
pub mod Quiet
pub mod Told
