pub mod Reading
pub mod Sums
pub mod Texts
pub mod Worth
