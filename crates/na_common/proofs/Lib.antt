pub mod Members
pub mod Placed
