pub mod Counts
pub mod Calls
pub mod Records
pub mod Devices
pub mod Passing
pub mod Channels
pub mod Talks
pub mod Sockets
