pub mod Chosen
pub mod Fitting
pub mod Ranges
pub mod Repeats
