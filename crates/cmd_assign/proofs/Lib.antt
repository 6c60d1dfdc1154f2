pub mod Cells
pub mod Refused
pub mod Renamed
pub mod Renaming
pub mod Repeats
pub mod Sets
pub mod Taken
