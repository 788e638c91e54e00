pub mod Answers
pub mod Bytes
pub mod Granules
pub mod Slots
pub mod Readers
pub mod Lists
pub mod Names
pub mod Caches
