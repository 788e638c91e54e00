pub mod Histories
pub mod Owned
