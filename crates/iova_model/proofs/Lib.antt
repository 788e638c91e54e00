mod ExampleWords
mod Examples
mod ExamplesCaches
mod ExamplesFlushes
mod ExamplesRefusals
mod ExamplesMemory
mod ExamplesLimits
mod ExamplesSteps
mod ExamplesValid
pub mod Placing
pub mod Runs
pub mod Unless
