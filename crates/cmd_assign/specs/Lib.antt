pub mod Renames
pub mod Sets
