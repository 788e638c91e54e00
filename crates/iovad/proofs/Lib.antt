mod Answered
mod Gathering
mod Reading
