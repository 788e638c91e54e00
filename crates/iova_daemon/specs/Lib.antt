pub mod Serving
pub mod SessionThreads
