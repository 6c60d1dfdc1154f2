pub mod TextFacts
pub mod Values
pub mod Written
