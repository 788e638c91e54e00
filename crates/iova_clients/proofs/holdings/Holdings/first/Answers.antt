use Rattle.std.proofs.Common.{◌≡◌, ◌<◌, Some, sym, ap, refl, arith, ◌∙◌}
use Rattle.std.proofs.lemmas.List.{get_or_default}
use Rattle.iova_clients.specs.Chains.{range_at}
use Rattle.iova_clients.specs.Orders.{ordered}
use Rattle.iova_clients.proofs.Ordering.{first_ordered}
use Rattle.iova_clients.proofs.Heaping.{heap_lowest}
use Rattle.iova_clients.proofs.holdings.Holdings.first.Goals as goal

pub returns-then-self : goal.returns-then-self
returns-then-self c =
    let h = c.self.inside in
    let cells = h.cells.items in
    let some : 0 < h.count = omega (arith, c.if-self-eq0.false) in
    let x = c.index.result.now in
    let here : x ≡ range_at cells 0 = c.index.ensures ∙ get_or_default cells 0 x (record { lo = 0; len = 0 }) (omega (arith, some, c.self.invariant.within)) in
    let first = first_ordered (range_at cells) h.count 0 (ordered cells h.count) refl c.self.invariant.apart some (heap_lowest cells h.count (c.self.invariant.heap c.if-self.true)) in
    rw (← c.self.view_is) (ap Some here ∙ sym first)

pub returns : goal.returns
returns c =
    let h = c.self.inside in
    let cells = h.cells.items in
    let p = c.lowest_of-place.result in
    let within = c.lowest_of-place.ensures.within in
    let lowest = rw c.as_slice.ensures.value at c.lowest_of-place.ensures.lowest in
    let x = c.index-2.result.now in
    let here : x ≡ range_at cells p = c.index-2.ensures ∙ get_or_default cells p x (record { lo = 0; len = 0 }) (omega (arith, within, c.self.invariant.within)) in
    let first = first_ordered (range_at cells) h.count p (ordered cells h.count) refl c.self.invariant.apart within lowest in
    rw (← c.self.view_is) (ap Some here ∙ sym first)
