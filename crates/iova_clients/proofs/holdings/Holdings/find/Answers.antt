use Rattle.std.proofs.Common.{◌-◌, sym, arith, ◌∙◌}
use Rattle.iova_clients.proofs.Looking.{looked_none, looked_below, looked_some, newest_found, not_newest}
use Rattle.iova_clients.proofs.holdings.Holdings.find.Goals as goal

pub returns-then-lo : goal.returns-then-lo
returns-then-lo c =
    let h = c.self.inside in
    let is = rw c.as_slice-cells.ensures.value at c.index-cells-self.is in
    rw (← c.self.view_is)
    (newest_found h.cells.items h.count c.args.lo c.index-cells-self.result (omega (arith, c.if-self-eq0.false)) c.self.invariant.within c.self.invariant.apart is
    (sym c.lo.ensures ∙ c.if-lo.true))

pub returns-then-link-eq0 : goal.returns-then-link-eq0
returns-then-link-eq0 c =
    let h = c.self.inside in
    let live = rw (← c.self.view_is) at c.requires in
    let entry = rw (c.as_slice-cells.ensures.value, c.as_slice-links.ensures.value) at c.entry_of-entry.ensures.entry in
    let none = rw c.as_slice-links.ensures.value at c.if-link-eq0.true in
    let is = rw c.as_slice-cells.ensures.value at c.index-cells-self.is in
    let newest = not_newest h.cells.items h.linked h.count c.args.lo c.index-cells-self.result (c.self.invariant.linked live).most c.self.invariant.within is
    (λ begins. c.if-lo.false (c.lo.ensures ∙ begins)) in
    rw (← c.self.view_is) (sym (looked_none h.cells.items h.linked h.count h.links.items c.args.lo c.entry_of-entry.result entry none newest))

pub bounds-cells-link : goal.bounds-cells-link
bounds-cells-link c =
    let h = c.self.inside in
    let entry = rw (c.as_slice-cells.ensures.value, c.as_slice-links.ensures.value) at c.entry_of-entry.ensures.entry in
    let some = rw c.as_slice-links.ensures.value at c.if-link-eq0.false in
    let live = rw (← c.self.view_is) at c.requires in
    let linked = c.self.invariant.linked live in
    let below = looked_below h.cells.items h.linked h.links.items c.args.lo c.entry_of-entry.result linked.chains entry some in
    rw (c.as_slice-cells.ensures.value, c.as_slice-links.ensures.value) (omega (arith, below, linked.some, c.self.invariant.within))

pub returns : goal.returns
returns c =
    let h = c.self.inside in
    let entry = rw (c.as_slice-cells.ensures.value, c.as_slice-links.ensures.value) at c.entry_of-entry.ensures.entry in
    let some = rw c.as_slice-links.ensures.value at c.if-link-eq0.false in
    let live = rw (← c.self.view_is) at c.requires in
    let linked = c.self.invariant.linked live in
    let is = rw (c.as_slice-cells.ensures.value, c.as_slice-links.ensures.value) at c.index-cells-link.is in
    rw (← c.self.view_is)
    (looked_some h.cells.items h.linked h.count h.links.items c.args.lo c.entry_of-entry.result c.index-cells-link.result linked.some c.self.invariant.within c.self.invariant.apart linked.chains entry some is)
