pub mod InFront
pub mod Numbered
pub mod Timed
