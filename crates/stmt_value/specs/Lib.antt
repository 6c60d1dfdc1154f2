pub mod Calls
pub mod Chains
pub mod Reports
pub mod Told
pub mod Values
