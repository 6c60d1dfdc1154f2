pub mod Combine
pub mod Faults
pub mod Functions
pub mod Then
