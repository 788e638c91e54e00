mod Doing
pub mod Rounds
mod Flushing
mod Closings
mod Endings
mod Releases
mod Seating
