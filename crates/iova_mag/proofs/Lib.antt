mod Pairs
mod Found
mod Frames
