pub mod Lines
pub mod Reading
pub mod Words
pub mod Writing
