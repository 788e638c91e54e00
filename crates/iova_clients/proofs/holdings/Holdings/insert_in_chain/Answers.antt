use Rattle.std.proofs.Common.{◌≡◌, ◌<◌, length, sym, arith, false, true, ◌∙◌}
use Rattle.std.proofs.lemmas.List.{length-set}
use Rattle.iova_clients.proofs.Linking.{linked_past}
use Rattle.iova_clients.proofs.Ordering.{pushed_ordered, pushed_apart}
use Rattle.iova_clients.proofs.Heaping.{written_back}
use Rattle.iova_clients.proofs.holdings.Holdings.insert_in_chain.Goals as goal

pub link_newest-requires-clause-links : goal.link_newest-requires-clause-links
link_newest-requires-clause-links c =
    let live = rw (← c.self.view_is) at c.requires.live in
    rw (c.as_slice.ensures.value, c.as_mut_slice-links.ensures.value) (c.self.invariant.linked live).chains

pub link_newest-requires-clause-newest : goal.link_newest-requires-clause-newest
link_newest-requires-clause-newest c =
    let live = rw (← c.self.view_is) at c.requires.live in
    let linked = c.self.invariant.linked live in
    (linked.some, linked.most)

pub invariant_of-self : goal.invariant_of-self
invariant_of-self c =
    let h = c.self.inside in
    let cells = h.cells.items in
    let spare = rw (← c.self.view_is) at c.requires.spare in
    let live : h.closing ≡ false = rw (← c.self.view_is) at c.requires.live in
    let new = rw (← c.self.view_is) at c.requires.new in
    let long : length cells ≡ h.cells.len = sym h.cells.ok.0 in
    let lt : h.count < length cells = omega (arith, spare, long) in
    let same = length-set cells h.count c.args.range in
    let linked = rw c.as_slice.ensures.value at c.link_newest.ensures in
    let before = (c.self.invariant.linked live).chains in
    let links_len : length c.link_newest.new.links ≡ h.links.len = omega (arith, linked.long, before.long, h.links.ok.0) in
    rw (written_back h.links.len h.links.items c.link_newest.new.links links_len) (record {
      within = omega (arith, lt, same);
      few = omega (arith, c.self.invariant.few, same);
      apart = pushed_apart cells h.count c.args.range lt c.self.invariant.apart new;
      linked = λ _. record {
        some = omega arith;
        most = omega arith;
        chains = linked_past cells h.count c.args.range c.link_newest.new.links linked;
      };
      heap = λ closing. absurd (let bad : false ≡ true = sym live ∙ closing in cc);
    })

pub returns-clause-ranges : goal.returns-clause-ranges
returns-clause-ranges c =
    let h = c.self.inside in
    let spare = rw (← c.self.view_is) at c.requires.spare in
    let long : length h.cells.items ≡ h.cells.len = sym h.cells.ok.0 in
    rw (← c.self.view_is) (pushed_ordered h.cells.items h.count c.args.range (omega (arith, spare, long)))
