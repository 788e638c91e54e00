use Rattle.std.proofs.Common.{rules}
use Rattle.std.proofs.lemmas.List.Sorted.{IsNonDecreasingBy-from_sort_by_key, IsPermutation-trans}
use Rattle.iova_range.specs.Frames.{Frames}
use Rattle.iova_clients.proofs.Ordering.{sorted_rising}
use Rattle.iova_clients.proofs.orders.put_in_order.Goals as goal

pub returns-clause-rising : goal.returns-clause-rising
returns-clause-rising c rising rises permuted =
    let up = IsNonDecreasingBy-from_sort_by_key (λ (r : Frames). r.lo) _ c.sort_unstable_by_key.ensures.sorted (λ a r q k. search rules) in
    let sorted = c.sort_unstable_by_key.new.self in
    sorted_rising rising sorted rises (IsPermutation-trans rising c.args.ranges.now sorted permuted c.sort_unstable_by_key.ensures.permutation) up
