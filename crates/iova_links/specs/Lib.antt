pub mod Loads
pub mod LockedSinks
