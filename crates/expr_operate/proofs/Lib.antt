pub mod Between
pub mod Refused
pub mod Signs
