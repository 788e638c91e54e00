use Rattle.std.proofs.Common.{◌≡◌, length, true, false, sym, arith, ◌∙◌}
use Rattle.iova_clients.proofs.Heaping.{written_back}
use Rattle.iova_clients.proofs.holdings.Holdings.insert_in_heap.Goals as goal

pub push-requires-clause-heap : goal.push-requires-clause-heap
push-requires-clause-heap c =
    let closing = rw (← c.self.view_is) at c.requires.closing in
    rw c.as_mut_slice.ensures.value (c.self.invariant.heap closing)

pub push-requires-clause-apart : goal.push-requires-clause-apart
push-requires-clause-apart c = rw c.as_mut_slice.ensures.value c.self.invariant.apart

pub push-requires-clause-new : goal.push-requires-clause-new
push-requires-clause-new c = let new = rw (← c.self.view_is) at c.requires.new in rw c.as_mut_slice.ensures.value new

pub invariant_of-self : goal.invariant_of-self
invariant_of-self c =
    let h = c.self.inside in
    let value = c.as_mut_slice.ensures.value in
    let len = rw value at c.push.ensures.len in
    let back = written_back h.cells.len h.cells.items c.push.new.cells (len ∙ sym h.cells.ok.0) in
    let closing : h.closing ≡ true = rw (← c.self.view_is) at c.requires.closing in
    let spare = rw (← c.self.view_is) at c.requires.spare in
    let long : length h.cells.items ≡ h.cells.len = sym h.cells.ok.0 in
    rw back (record {
      within = omega (arith, len, long, spare);
      few = rw len c.self.invariant.few;
      apart = c.push.ensures.apart;
      linked = λ bad. absurd (let no : true ≡ false = sym closing ∙ bad in cc);
      heap = λ _. c.push.ensures.heap;
    })

pub returns-clause-ranges : goal.returns-clause-ranges
returns-clause-ranges c =
    let h = c.self.inside in
    let value = c.as_mut_slice.ensures.value in
    let len = rw value at c.push.ensures.len in
    let back = written_back h.cells.len h.cells.items c.push.new.cells (len ∙ sym h.cells.ok.0) in
    rw (back, ← c.self.view_is) (rw value at c.push.ensures.more)
