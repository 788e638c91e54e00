pub mod Stored
pub mod Cached
pub mod Inside
