pub mod Faults
pub mod Answers
pub mod Outcomes
pub mod Sound
pub mod Verdicts
