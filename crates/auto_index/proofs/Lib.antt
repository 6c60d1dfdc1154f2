pub mod Adding
pub mod Fitting
pub mod Given
pub mod Valuing
