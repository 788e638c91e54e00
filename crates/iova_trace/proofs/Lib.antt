mod Examples
mod FirstBad
mod Headers
mod LineSteps
mod Readings
mod Replaying
mod Spellings
mod Streams
