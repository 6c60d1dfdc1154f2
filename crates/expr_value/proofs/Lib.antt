pub mod Given
pub mod Touched
pub mod Vectors
