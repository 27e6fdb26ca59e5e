pub mod Crossing
mod Told
