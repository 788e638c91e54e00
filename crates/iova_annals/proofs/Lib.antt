pub mod Entries
pub mod Rows
mod Steps
mod Walks
mod Sent
