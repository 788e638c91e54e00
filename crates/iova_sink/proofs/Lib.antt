mod HandedOn
mod Passing
mod Records
mod Talks
mod WholeTalks
