pub mod Ending
pub mod Exit
pub mod Given
pub mod Run
pub mod Steps
pub mod Words
