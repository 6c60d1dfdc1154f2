pub mod InPlace
pub mod Ordering
pub mod Probing
