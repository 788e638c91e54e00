mod Examples
mod Lengths
