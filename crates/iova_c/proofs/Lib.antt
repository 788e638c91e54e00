mod Words
mod Granules
mod Addresses
mod Filled
mod FastCalls
