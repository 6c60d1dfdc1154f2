pub mod Filled
pub mod Items
pub mod Paired
pub mod Told
