-- For the crates above: what ranges weigh, for any weight of a range, and what each change makes of it.
pub use Rattle.iova_laws.proofs.Weight.{cached, clients, clients-forgotten, entries, firsts, holdings_le, magazines, ranges, ranges-append, ranges-insert, ranges-of_order, ranges-remove, ranges_are, rings, rings-set}
pub use Rattle.iova_laws.proofs.WeightCaches.{cached-put_all, cached-emptied, cached_with, get_pops, Pops}
pub use Rattle.iova_laws.proofs.WeightHolders.{load, cached_weigh, held_weigh, holder_ranges, owners_hold, held_are}
