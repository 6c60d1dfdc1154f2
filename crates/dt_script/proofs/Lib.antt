pub mod FaultPlaces
pub mod Answered
pub mod TokenLoop
