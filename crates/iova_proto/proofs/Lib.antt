pub mod Spellings
pub mod Feeding
mod Pieces
