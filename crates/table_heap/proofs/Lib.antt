pub mod Alike
pub mod Bounds
pub mod Heaps
pub mod Plain
pub mod Slots
pub mod PlainTables
mod WithIndex
mod Changed
