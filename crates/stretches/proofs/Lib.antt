pub mod Alike
pub mod Apart
pub mod Free
pub mod LeftOut
pub mod Looks
pub mod Order
pub mod Places
pub mod Runs
