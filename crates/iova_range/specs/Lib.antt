pub mod Frames
pub mod Sizes
pub mod Bounds
pub mod Refusals
