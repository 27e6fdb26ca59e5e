pub mod Lines
pub mod OpenJobs
pub mod Output
pub mod Replies
pub mod Runs
pub mod Upkeep
pub mod Faults
pub mod laws
