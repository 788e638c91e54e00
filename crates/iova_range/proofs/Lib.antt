pub mod Powers
mod SmallSizes
mod Examples
