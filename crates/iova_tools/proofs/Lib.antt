mod Reading
mod Sound
