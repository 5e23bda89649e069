pub mod Fitted
pub mod Frames
pub mod Inner
pub mod Whole
