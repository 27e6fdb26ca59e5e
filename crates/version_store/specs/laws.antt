pub mod Content
pub mod Cutting
