pub mod Text
pub mod Windows
pub mod Regions
pub mod Span
