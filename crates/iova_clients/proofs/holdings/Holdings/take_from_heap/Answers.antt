use Rattle.std.proofs.Common.{◌≡◌, ◌+◌, ◌-◌, Some, true, false, sym, ap, arith, ◌∙◌}
use Rattle.std.proofs.lemmas.List.{get_or_default}
use Rattle.iova_clients.specs.Chains.{range_at}
use Rattle.iova_clients.proofs.Ordering.{ordered_none, found_at}
use Rattle.iova_clients.proofs.Heaping.{written_back}
use Rattle.iova_clients.proofs.holdings.Holdings.take_from_heap.Goals as goal

pub returns-in_err-place-clause-value : goal.returns-in_err-place-clause-value
returns-in_err-place-clause-value c =
    let h = c.self.inside in
    let none = rw c.as_slice.ensures.value at c.in_err-place.ensures.none in
    rw (c.from_residual.ensures, ← c.self.view_is) (sym (ordered_none (range_at h.cells.items) h.count c.args.lo none))

pub remove-requires-clause-heap : goal.remove-requires-clause-heap
remove-requires-clause-heap c =
    let closing = rw (← c.self.view_is) at c.requires in
    let count : c.self.inside.count - 1 + 1 ≡ c.self.inside.count = omega (arith, c.in_ok-place.ensures.within) in
    rw (c.as_mut_slice.ensures.value, count) (c.self.invariant.heap closing)

pub remove-requires-clause-apart : goal.remove-requires-clause-apart
remove-requires-clause-apart c =
    let count : c.self.inside.count - 1 + 1 ≡ c.self.inside.count = omega (arith, c.in_ok-place.ensures.within) in
    rw (c.as_mut_slice.ensures.value, count) c.self.invariant.apart

pub invariant_of-self : goal.invariant_of-self
invariant_of-self c =
    let h = c.self.inside in
    let len = rw c.as_mut_slice.ensures.value at c.remove.ensures.len in
    let back = written_back h.cells.len h.cells.items c.remove.new.cells (len ∙ sym h.cells.ok.0) in
    let closing : h.closing ≡ true = rw (← c.self.view_is) at c.requires in
    rw back (record {
      within = omega (arith, len, c.self.invariant.within);
      few = rw len c.self.invariant.few;
      apart = c.remove.ensures.apart;
      linked = λ bad. absurd (let no : true ≡ false = sym closing ∙ bad in cc);
      heap = λ _. c.remove.ensures.heap;
    })

pub returns-clause-value : goal.returns-clause-value
returns-clause-value c =
    let h = c.self.inside in
    let place = c.in_ok-place.place in
    let x = c.index-range.result.now in
    let within = c.in_ok-place.ensures.within in
    let begins = rw c.as_slice.ensures.value at c.in_ok-place.ensures.begins in
    let here : x ≡ range_at h.cells.items place = c.index-range.ensures ∙ get_or_default h.cells.items place x (record { lo = 0; len = 0 }) (omega (arith, within, c.self.invariant.within)) in
    rw (← c.self.view_is) (ap Some here ∙ sym (found_at h.cells.items h.count place c.args.lo c.self.invariant.apart within begins))

pub returns-clause-ranges : goal.returns-clause-ranges
returns-clause-ranges c =
    let h = c.self.inside in
    let len = rw c.as_mut_slice.ensures.value at c.remove.ensures.len in
    let back = written_back h.cells.len h.cells.items c.remove.new.cells (len ∙ sym h.cells.ok.0) in
    let count : h.count - 1 + 1 ≡ h.count = omega (arith, c.in_ok-place.ensures.within) in
    let begins = rw c.as_slice.ensures.value at c.in_ok-place.ensures.begins in
    rw (back, ← c.self.view_is) (rw (c.as_mut_slice.ensures.value, begins, count) at c.remove.ensures.less)
