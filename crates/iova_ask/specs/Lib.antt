pub mod Asking
pub mod Answers
pub mod LineRuns
