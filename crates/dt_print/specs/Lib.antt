pub mod Elements
pub mod Framed
pub mod Lines
