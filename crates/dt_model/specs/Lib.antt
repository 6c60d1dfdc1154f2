pub mod Coercion
pub mod Combine
pub mod Operations
pub mod Spelling
pub mod State
pub mod Table
pub mod Vector
