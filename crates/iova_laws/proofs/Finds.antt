-- For the crates above: the clients, holdings and ranges that a step finds.
pub use Rattle.iova_laws.proofs.Outcomes.{owned}
pub use Rattle.iova_laws.proofs.ValidFound.{changed_found, first_held, held_at}
pub use Rattle.iova_laws.proofs.Walks.{walk_walked}
