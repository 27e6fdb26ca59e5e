pub mod Mapped
pub mod Conflicts
pub mod Results
pub mod Named
pub mod Begins
pub mod Unders
