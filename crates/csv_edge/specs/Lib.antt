pub mod Columns
pub mod Faults
pub mod Left
pub mod Written
