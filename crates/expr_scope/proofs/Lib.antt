pub mod Bindings
pub mod Ends
pub mod NextOne
pub mod Plain
