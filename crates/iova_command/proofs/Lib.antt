mod Apps
mod Builders
mod Getters
