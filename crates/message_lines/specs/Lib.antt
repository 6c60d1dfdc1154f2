pub mod Filled
pub mod Given
