pub mod Chains
pub mod Firsts
pub mod Parts
pub mod Walk
