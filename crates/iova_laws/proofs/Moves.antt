-- For the crates above: what the parts of a step take from free frames and make free.
pub use Rattle.iova_laws.proofs.ConserveSteps.{IsMoved, moved_none, opened_moved, marked_moved, forgotten_moved, given_moved, drained_moved, flushes_moved, shape_of}
pub use Rattle.iova_laws.proofs.Conserve.{drained_queued_moved}
