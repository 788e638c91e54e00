mod Sends
mod Places
mod Rounds
mod SessionThreads
