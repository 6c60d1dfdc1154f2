pub mod Altered
pub mod Effects
pub mod Places
