pub mod Replies
pub mod Log
pub mod Lines
pub mod Whole
pub mod Replay
pub mod Logged
pub mod ReplayState
pub mod Recorded
