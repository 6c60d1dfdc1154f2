pub mod Askings
pub mod Counts
pub mod Ends
pub mod Files
pub mod Refusals
pub mod Runs
pub mod Stops
pub mod Takes
