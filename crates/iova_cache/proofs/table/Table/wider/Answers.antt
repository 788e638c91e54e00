use Rattle.std.proofs.Common.{length, sum_by, ap, arith}
use Rattle.iova_cache.specs.Held.{Held, home_of, all_ranges}
use Rattle.iova_cache.proofs.Tables.{length_sums, sum_in_order, twice, some_room}
use Rattle.iova_cache.proofs.table.Table.wider.Goals as goal

pub take_all-requires : goal.take_all-requires
take_all-requires c =
    let bs = c.self.inside.buckets.items in
    let none = ap (λ (h : Held). length h.ranges) c.in_ok-wider.ensures.value in
    let most = ap (λ (h : Held). h.capacity) c.in_ok-wider.ensures.value in
    let more = twice c.self.inside.bits in
    rw c.as_slice.ensures.value (omega (arith, none, most, more, c.self.invariant.0.fills, c.self.invariant.0.count, some_room c.self.inside.bits c.self.invariant.0.least))

pub returns-clause-room : goal.returns-clause-room
returns-clause-room c =
    let bs = c.self.inside.buckets.items in
    let none = ap (λ (h : Held). length h.ranges) c.in_ok-wider.ensures.value in
    let most = ap (λ (h : Held). h.capacity) c.in_ok-wider.ensures.value in
    let more = twice c.self.inside.bits in
    let all = length_sums c.in_ok-wider.wider.ranges c.take_all.new.self.ranges (all_ranges bs) (λ weigh. rw c.as_slice.ensures.value at (c.take_all.ensures.moved weigh)) in
    omega (arith, none, most, more, all, c.take_all.ensures.same, c.self.invariant.0.fills, c.self.invariant.0.count, some_room c.self.inside.bits c.self.invariant.0.least)

pub returns-clause-doubled : goal.returns-clause-doubled
returns-clause-doubled c =
    let most = ap (λ (h : Held). h.capacity) c.in_ok-wider.ensures.value in
    let more = twice c.self.inside.bits in
    rw (← c.self.view_is) (omega (arith, most, more, c.take_all.ensures.same, c.self.invariant.0.count, some_room c.self.inside.bits c.self.invariant.0.least))

pub returns-clause-same : goal.returns-clause-same
returns-clause-same c = λ weigh.
    let bs = c.self.inside.buckets.items in
    let none = ap (λ (h : Held). sum_by weigh h.ranges) c.in_ok-wider.ensures.value in
    let all = rw c.as_slice.ensures.value at (c.take_all.ensures.moved weigh) in
    rw (← c.self.view_is) (omega (arith, none, all, sum_in_order weigh (home_of c.self.inside.bits) bs))
