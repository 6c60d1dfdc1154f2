pub mod Lists
pub mod Short
pub mod Warnings
