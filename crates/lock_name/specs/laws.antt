pub mod Blocking
pub mod Counting
pub mod Resources
pub mod Zeros
