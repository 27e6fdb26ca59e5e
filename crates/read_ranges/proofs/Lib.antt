pub mod Cutting
pub mod Joining
pub mod Noting
pub mod Single
