pub mod Cuts
pub mod Digits
mod EightDigits
pub mod LineEnds
mod Pairs
pub mod WordTexts
pub mod Writes
