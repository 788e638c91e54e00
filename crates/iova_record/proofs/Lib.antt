pub mod GoingOn
mod StepLogs
mod Keeping
mod Drains
mod Covering
mod Recording
mod KnownWorkers
