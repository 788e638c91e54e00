use Rattle.std.proofs.Common.{◌≡◌, true, false, sym, ◌∙◌}
use Rattle.iova_clients.proofs.Heaping.{written_back}
use Rattle.iova_clients.proofs.holdings.Holdings.close.Goals as goal

pub invariant_of-self : goal.invariant_of-self
invariant_of-self c =
    let h = c.self.inside in
    let value = c.as_mut_slice.ensures.value in
    let len = rw value at c.start.ensures.len in
    let back = written_back h.cells.len h.cells.items c.start.new.cells (len ∙ sym h.cells.ok.0) in
    rw back (record {
      within = rw len c.self.invariant.within;
      few = rw len c.self.invariant.few;
      apart = c.start.ensures.apart;
      linked = λ bad. absurd (let no : true ≡ false = bad in cc);
      heap = λ _. c.start.ensures.heap;
    })

pub returns-clause-ranges : goal.returns-clause-ranges
returns-clause-ranges c =
    let h = c.self.inside in
    let value = c.as_mut_slice.ensures.value in
    let len = rw value at c.start.ensures.len in
    let back = written_back h.cells.len h.cells.items c.start.new.cells (len ∙ sym h.cells.ok.0) in
    rw (back, ← c.self.view_is) (rw value at c.start.ensures.same)
