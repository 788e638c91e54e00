use Rattle.std.proofs.Common.{◌≡◌, ◌≢◌, ◌+◌, ◌-◌, ◌<◌, length, get_or, true, false, sym, ap, arith, ◌∙◌}
use Rattle.std.proofs.lemmas.List.{length-set, get_or_default}
use Rattle.iova_clients.specs.Chains.{range_at}
use Rattle.iova_clients.proofs.Ordering.{taken_ordered, taken_apart, last_ordered}
use Rattle.iova_clients.proofs.Looking.{looked_none, looked_below, looked_entry, looked_some, newest_found, none_left}
use Rattle.iova_clients.proofs.Heaping.{written_back}
use Rattle.iova_clients.proofs.holdings.Holdings.take_from_chain.Goals as goal

pub returns-then-lo-clause-value : goal.returns-then-lo-clause-value
returns-then-lo-clause-value c =
    let h = c.self.inside in
    rw (← c.self.view_is)
    (newest_found h.cells.items h.count c.args.lo c.index-newest.result.now (omega (arith, c.if-count-eq0.false)) c.self.invariant.within c.self.invariant.apart c.index-newest.ensures
    (sym c.lo.ensures ∙ c.if-lo.true))

pub returns-then-lo-clause-ranges : goal.returns-then-lo-clause-ranges
returns-then-lo-clause-ranges c =
    let h = c.self.inside in
    let some : h.count - 1 + 1 ≡ h.count = omega (arith, c.if-count-eq0.false) in
    let below : h.count - 1 < length h.cells.items = omega (arith, c.if-count-eq0.false, c.self.invariant.within) in
    let newest : c.index-newest.result.now ≡ range_at h.cells.items (h.count - 1) =
    c.index-newest.ensures ∙ get_or_default h.cells.items (h.count - 1) c.index-newest.result.now (record { lo = 0; len = 0 }) below in
    let begins = ap (λ r. r.lo) (sym newest) ∙ (sym c.lo.ensures ∙ c.if-lo.true) in
    let taken = last_ordered h.cells.items (h.count - 1) (rw some c.self.invariant.apart) below in
    rw (← c.self.view_is) (rw (begins, some) at taken)

pub returns-then-link-eq0-clause-value : goal.returns-then-link-eq0-clause-value
returns-then-link-eq0-clause-value c =
    let h = c.self.inside in
    let e = c.entry_of-entry.result in
    let live : h.closing ≡ false = rw (← c.self.view_is) at c.requires in
    let before = (c.self.invariant.linked live).chains in
    let mid = c.link_newest.new.links in
    let chains = rw c.as_slice.ensures.value at c.link_newest.ensures in
    let mid_len : length mid ≡ h.links.len = omega (arith, chains.long, before.long, h.links.ok.0) in
    let back = written_back h.links.len h.links.items mid mid_len in
    let entry = rw (c.as_slice-2.ensures.value, c.as_slice-3.ensures.value, back) at c.entry_of-entry.ensures.entry in
    let within = rw (c.as_slice-3.ensures.value, back) at c.entry_of-entry.ensures.within in
    let link : get_or mid e 0 ≡ c.index.result.now = get_or_default mid e 0 c.index.result.now within ∙ sym (rw back at c.index.ensures) in
    let none : get_or mid e 0 ≡ 0 = link ∙ c.if-link-eq0.true in
    rw (← c.self.view_is) (sym (looked_none h.cells.items h.count h.count mid c.args.lo e entry none (none_left h.cells.items h.count c.args.lo)))

pub index-range-requires : goal.index-range-requires
index-range-requires c =
    let h = c.self.inside in
    let e = c.entry_of-entry.result in
    let live : h.closing ≡ false = rw (← c.self.view_is) at c.requires in
    let before = (c.self.invariant.linked live).chains in
    let mid = c.link_newest.new.links in
    let chains = rw c.as_slice.ensures.value at c.link_newest.ensures in
    let mid_len : length mid ≡ h.links.len = omega (arith, chains.long, before.long, h.links.ok.0) in
    let back = written_back h.links.len h.links.items mid mid_len in
    let entry = rw (c.as_slice-2.ensures.value, c.as_slice-3.ensures.value, back) at c.entry_of-entry.ensures.entry in
    let within = rw (c.as_slice-3.ensures.value, back) at c.entry_of-entry.ensures.within in
    let link : get_or mid e 0 ≡ c.index.result.now = get_or_default mid e 0 c.index.result.now within ∙ sym (rw back at c.index.ensures) in
    let some : get_or mid e 0 ≢ 0 = λ is. c.if-link-eq0.false (sym link ∙ is) in
    let below = looked_below h.cells.items h.count mid c.args.lo e chains entry some in
    let count : h.count - 1 + 1 ≡ h.count = omega (arith, below) in
    omega (arith, below, link, c.self.invariant.within, h.cells.ok.0)

pub remove-requires-clause-links : goal.remove-requires-clause-links
remove-requires-clause-links c =
    let h = c.self.inside in
    let e = c.entry_of-entry.result in
    let live : h.closing ≡ false = rw (← c.self.view_is) at c.requires in
    let before = (c.self.invariant.linked live).chains in
    let mid = c.link_newest.new.links in
    let chains = rw c.as_slice.ensures.value at c.link_newest.ensures in
    let mid_len : length mid ≡ h.links.len = omega (arith, chains.long, before.long, h.links.ok.0) in
    let back = written_back h.links.len h.links.items mid mid_len in
    let entry = rw (c.as_slice-2.ensures.value, c.as_slice-3.ensures.value, back) at c.entry_of-entry.ensures.entry in
    let within = rw (c.as_slice-3.ensures.value, back) at c.entry_of-entry.ensures.within in
    let link : get_or mid e 0 ≡ c.index.result.now = get_or_default mid e 0 c.index.result.now within ∙ sym (rw back at c.index.ensures) in
    let count : h.count - 1 + 1 ≡ h.count = omega (arith, c.if-count-eq0.false) in
    rw (c.as_mut_slice.ensures.value, c.as_mut_slice-links-2.ensures.value, back, count) chains

pub remove-requires-clause-entry : goal.remove-requires-clause-entry
remove-requires-clause-entry c =
    let h = c.self.inside in
    let e = c.entry_of-entry.result in
    let live : h.closing ≡ false = rw (← c.self.view_is) at c.requires in
    let before = (c.self.invariant.linked live).chains in
    let mid = c.link_newest.new.links in
    let chains = rw c.as_slice.ensures.value at c.link_newest.ensures in
    let mid_len : length mid ≡ h.links.len = omega (arith, chains.long, before.long, h.links.ok.0) in
    let back = written_back h.links.len h.links.items mid mid_len in
    let entry = rw (c.as_slice-2.ensures.value, c.as_slice-3.ensures.value, back) at c.entry_of-entry.ensures.entry in
    let within = rw (c.as_slice-3.ensures.value, back) at c.entry_of-entry.ensures.within in
    let link : get_or mid e 0 ≡ c.index.result.now = get_or_default mid e 0 c.index.result.now within ∙ sym (rw back at c.index.ensures) in
    let some : get_or mid e 0 ≢ 0 = λ is. c.if-link-eq0.false (sym link ∙ is) in
    let count : h.count - 1 + 1 ≡ h.count = omega (arith, c.if-count-eq0.false) in
    rw (c.as_mut_slice.ensures.value, c.as_mut_slice-links-2.ensures.value, back, count) (looked_entry h.cells.items h.count mid c.args.lo e entry some)

pub invariant_of-self-2 : goal.invariant_of-self-2
invariant_of-self-2 c =
    let h = c.self.inside in
    let e = c.entry_of-entry.result in
    let live : h.closing ≡ false = rw (← c.self.view_is) at c.requires in
    let before = (c.self.invariant.linked live).chains in
    let mid = c.link_newest.new.links in
    let chains = rw c.as_slice.ensures.value at c.link_newest.ensures in
    let mid_len : length mid ≡ h.links.len = omega (arith, chains.long, before.long, h.links.ok.0) in
    let back = written_back h.links.len h.links.items mid mid_len in
    let entry = rw (c.as_slice-2.ensures.value, c.as_slice-3.ensures.value, back) at c.entry_of-entry.ensures.entry in
    let within = rw (c.as_slice-3.ensures.value, back) at c.entry_of-entry.ensures.within in
    let link : get_or mid e 0 ≡ c.index.result.now = get_or_default mid e 0 c.index.result.now within ∙ sym (rw back at c.index.ensures) in
    let some : get_or mid e 0 ≢ 0 = λ is. c.if-link-eq0.false (sym link ∙ is) in
    let below = looked_below h.cells.items h.count mid c.args.lo e chains entry some in
    let count : h.count - 1 + 1 ≡ h.count = omega (arith, below) in
    let now = rw (c.as_mut_slice.ensures.value, c.as_mut_slice-links-2.ensures.value, back) at c.remove.ensures.cells in
    let p = get_or mid e 0 - 1 in
    let same : length c.remove.new.cells ≡ length h.cells.items = ap length now ∙ length-set h.cells.items p (range_at h.cells.items (h.count - 1)) in
    let cells_len : length c.remove.new.cells ≡ h.cells.len = same ∙ sym h.cells.ok.0 in
    let after = c.remove.ensures.links in
    let links_len : length c.remove.new.links ≡ h.links.len = omega (arith, after.long, same, before.long, h.links.ok.0) in
    let apart = taken_apart h.cells.items (h.count - 1) p (rw count c.self.invariant.apart) (omega (arith, below)) (omega (arith, below, c.self.invariant.within)) in
    rw (written_back h.cells.len h.cells.items c.remove.new.cells cells_len, back, written_back h.links.len mid c.remove.new.links links_len) (record {
      within = omega (arith, same, c.self.invariant.within);
      few = rw same c.self.invariant.few;
      apart = rw now apart;
      linked = λ _. record { some = omega arith; most = omega arith; chains = after };
      heap = λ bad. absurd (let no : false ≡ true = sym live ∙ bad in cc);
    })

pub returns-clause-value : goal.returns-clause-value
returns-clause-value c =
    let h = c.self.inside in
    let e = c.entry_of-entry.result in
    let live : h.closing ≡ false = rw (← c.self.view_is) at c.requires in
    let before = (c.self.invariant.linked live).chains in
    let mid = c.link_newest.new.links in
    let chains = rw c.as_slice.ensures.value at c.link_newest.ensures in
    let mid_len : length mid ≡ h.links.len = omega (arith, chains.long, before.long, h.links.ok.0) in
    let back = written_back h.links.len h.links.items mid mid_len in
    let entry = rw (c.as_slice-2.ensures.value, c.as_slice-3.ensures.value, back) at c.entry_of-entry.ensures.entry in
    let within = rw (c.as_slice-3.ensures.value, back) at c.entry_of-entry.ensures.within in
    let link : get_or mid e 0 ≡ c.index.result.now = get_or_default mid e 0 c.index.result.now within ∙ sym (rw back at c.index.ensures) in
    let some : get_or mid e 0 ≢ 0 = λ is. c.if-link-eq0.false (sym link ∙ is) in
    let x = c.index-range.result.now in
    let is : x ≡ get_or h.cells.items (get_or mid e 0 - 1) x = c.index-range.ensures ∙ ap (λ n. get_or h.cells.items (n - 1) x) (sym link) in
    rw (← c.self.view_is) (looked_some h.cells.items h.count h.count mid c.args.lo e x (omega arith) c.self.invariant.within c.self.invariant.apart chains entry some is)

pub returns-clause-ranges : goal.returns-clause-ranges
returns-clause-ranges c =
    let h = c.self.inside in
    let e = c.entry_of-entry.result in
    let live : h.closing ≡ false = rw (← c.self.view_is) at c.requires in
    let before = (c.self.invariant.linked live).chains in
    let mid = c.link_newest.new.links in
    let chains = rw c.as_slice.ensures.value at c.link_newest.ensures in
    let mid_len : length mid ≡ h.links.len = omega (arith, chains.long, before.long, h.links.ok.0) in
    let back = written_back h.links.len h.links.items mid mid_len in
    let entry = rw (c.as_slice-2.ensures.value, c.as_slice-3.ensures.value, back) at c.entry_of-entry.ensures.entry in
    let within = rw (c.as_slice-3.ensures.value, back) at c.entry_of-entry.ensures.within in
    let link : get_or mid e 0 ≡ c.index.result.now = get_or_default mid e 0 c.index.result.now within ∙ sym (rw back at c.index.ensures) in
    let some : get_or mid e 0 ≢ 0 = λ is. c.if-link-eq0.false (sym link ∙ is) in
    let below = looked_below h.cells.items h.count mid c.args.lo e chains entry some in
    let count : h.count - 1 + 1 ≡ h.count = omega (arith, below) in
    let now = rw (c.as_mut_slice.ensures.value, c.as_mut_slice-links-2.ensures.value, back) at c.remove.ensures.cells in
    let p = get_or mid e 0 - 1 in
    let same : length c.remove.new.cells ≡ length h.cells.items = ap length now ∙ length-set h.cells.items p (range_at h.cells.items (h.count - 1)) in
    let cells_len : length c.remove.new.cells ≡ h.cells.len = same ∙ sym h.cells.ok.0 in
    let taken = taken_ordered h.cells.items (h.count - 1) p (rw count c.self.invariant.apart) (omega (arith, below)) (omega (arith, below, c.self.invariant.within)) in
    let begins = entry.found (omega (arith, some)) in
    rw (written_back h.cells.len h.cells.items c.remove.new.cells cells_len, now, ← c.self.view_is) (rw (begins, count) at taken)
