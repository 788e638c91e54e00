pub mod Requests
pub mod Answers
pub mod Feeds
pub mod Streams
