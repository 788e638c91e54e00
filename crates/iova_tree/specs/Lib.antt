pub mod Room
pub mod Spans
pub mod Branches
pub mod Fit
pub mod Space
