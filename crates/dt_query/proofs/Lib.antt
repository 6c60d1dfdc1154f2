pub mod Empty
pub mod FoundFacts
pub mod Ordered
