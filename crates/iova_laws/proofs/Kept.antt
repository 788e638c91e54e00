-- For the crates above: the parts of a step keep a state valid, and what a valid state has.
pub use Rattle.iova_laws.proofs.Valid.{with_marked_valid, without_client_valid, begun_valid, ended_valid, drained_valid, unmapped_valid, held_inside}
pub use Rattle.iova_laws.proofs.ValidCases.{with_marked, HasRingRoom}
pub use Rattle.iova_laws.proofs.ValidCaches.{magazine_takes, has_shelf, order_is}
pub use Rattle.iova_laws.proofs.ValidLists.{all-at, all_found}
pub use Rattle.iova_laws.proofs.ValidClients.{found_valid}
