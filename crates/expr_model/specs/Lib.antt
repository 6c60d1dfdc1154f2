pub mod Functions
pub mod Operators
pub mod Surroundings
