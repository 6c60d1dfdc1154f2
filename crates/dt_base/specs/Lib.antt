pub mod Cell
pub mod Fault
pub mod Warns
