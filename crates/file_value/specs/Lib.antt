pub mod Answers
pub mod Fails
pub mod Files
pub mod Reads
