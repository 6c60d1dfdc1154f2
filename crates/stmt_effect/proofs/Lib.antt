pub mod Alterations
pub mod Indexed
