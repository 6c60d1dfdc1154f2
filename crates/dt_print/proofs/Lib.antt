pub mod Elements
pub mod Framing
pub mod Spans
pub mod Tables
