pub mod AllowedTrees
pub mod Laws
pub mod Machine
