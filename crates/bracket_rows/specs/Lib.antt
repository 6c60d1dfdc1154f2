pub mod Forms
pub mod Found
pub mod Ordered
pub mod Scopes
