pub mod Behind
pub mod Choosing
pub mod IndexFacts
pub mod KeyFacts
pub mod Named
pub mod Steps
