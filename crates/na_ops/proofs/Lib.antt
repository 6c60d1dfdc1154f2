pub mod Answered
pub mod Examples
pub mod Fill
pub mod Mixed
pub mod Numbers
