pub mod FrameViews
pub mod StepViews
pub mod Sums
pub mod EndViews
