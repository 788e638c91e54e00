pub mod Magazines
pub mod Workers
pub mod Inside
