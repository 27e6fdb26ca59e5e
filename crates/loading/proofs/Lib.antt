pub mod Cut
pub mod Sets
