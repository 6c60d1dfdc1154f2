pub mod Answers
pub mod Brought
pub mod Places
pub mod Same
