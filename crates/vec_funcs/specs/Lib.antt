pub mod Ranks
pub mod Sides
pub mod Words
