pub mod Finds
pub mod Kept
pub mod Moves
pub mod Weights
mod ClosingSerials
mod ClosingSteps
mod ClosingTranscripts
mod Conserve
mod ConserveSteps
mod ConserveWalk
mod CountPlaces
mod FlushReuse
mod FlushRings
mod FlushSteps
mod FlushTranscripts
mod LedgerClients
mod LedgerSteps
mod LedgerTotals
mod NumberCredits
mod NumberSound
mod Outcomes
mod PlaceGiven
mod PlaceKinds
mod PlaceOnce
mod PlaceWindows
mod RefusalMemory
mod RefusalPoints
mod PromiseLaws
mod RefusalState
mod ReplyLaws
mod RequestAnswers
mod Serials
mod Tests
mod Valid
mod ValidCaches
mod ValidCases
mod ValidClients
mod ValidFound
mod ValidLists
mod ValidRings
mod ValidRising
mod ValidSizes
mod Walks
mod Weight
mod WeightCaches
mod WeightHolders
