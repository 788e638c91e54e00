mod RingSteps
mod Sound
mod Taken
