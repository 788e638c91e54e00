mod Hex
mod Insertions
mod Lines
mod Taking
