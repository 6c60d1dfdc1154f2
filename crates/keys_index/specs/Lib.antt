pub mod Columns
pub mod Probes
