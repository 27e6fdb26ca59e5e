pub mod Asked
pub mod Blocks
pub mod Cutting
pub mod Joining
pub mod OneMore
pub mod Placing
pub mod Timeouts
pub mod Written
