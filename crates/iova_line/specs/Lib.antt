pub mod Text
pub mod LineSteps
pub mod Traces
pub mod Recorded
