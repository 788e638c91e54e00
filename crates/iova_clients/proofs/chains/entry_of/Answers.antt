use Rattle.std.proofs.Common.{◌≡◌, ◌≢◌, ◌+◌, ◌-◌, ◌<◌, inr, length, slice_index, refl, sym, ap, ◌∙◌, arith}
use Rattle.std.proofs.lemmas.Bool.{cases_eq}
use Rattle.std.proofs.lemmas.List.{get_or_default}
use Rattle.iova_clients.specs.Chains.{chain_at, chain_of, range_at}
use Rattle.iova_clients.proofs.Linking.{by_either, entry_bound, next_entry, link_below, none_between}
use Rattle.iova_clients.proofs.chains.entry_of.Goals as goal

pub loop-link-init : goal.loop-link-init
loop-link-init c =
    let chain = c.chain_of.ensures in (
      refl,
      omega (arith, c.requires.links.long, c.requires.some, chain.within),
      (
        c.args.count,
        inr (ap (λ x. length c.args.cells.now + x) chain.is, rw (← chain.is) (omega (arith, c.requires.some, chain.within)), refl),
        λ k ge lt is. absurd (omega (arith, ge, lt)),
      ),
    )

pub bounds-cells-link : goal.bounds-cells-link
bounds-cells-link c =
    let cells = c.args.cells.now in
    let i = c.loop-link.invariant in
    let own = chain_of (length cells - 1) c.args.lo in
    let low = link_below (chain_at cells) (length cells) c.args.count c.args.links.now c.loop-link.entry own i.2.0 c.requires.links i.2.1 in
    let most = entry_bound (chain_at cells) (length cells) c.args.count c.loop-link.entry own i.2.0 i.2.1 in
    omega (arith, low, most, i.0, c.requires.within, c.loop-link-test.true)

pub bounds-links-entry-in-loop-link : goal.bounds-links-entry-in-loop-link
bounds-links-entry-in-loop-link c =
    let cells = c.args.cells.now in
    let i = c.loop-link.invariant in
    let own = chain_of (length cells - 1) c.args.lo in
    let low = link_below (chain_at cells) (length cells) c.args.count c.args.links.now c.loop-link.entry own i.2.0 c.requires.links i.2.1 in
    let most = entry_bound (chain_at cells) (length cells) c.args.count c.loop-link.entry own i.2.0 i.2.1 in
    omega (arith, low, most, i.0, c.requires.links.long, c.requires.within, c.loop-link-test.true)

pub loop-link-smaller : goal.loop-link-smaller
loop-link-smaller c =
    let cells = c.args.cells.now in
    let links = c.args.links.now in
    let i = c.loop-link.invariant in
    let own = chain_of (length cells - 1) c.args.lo in
    let next = next_entry (chain_at cells) (length cells) c.args.count links c.loop-link.entry own i.2.0 c.requires.links i.2.1 (omega (arith, i.0, c.loop-link-test.true)) in
    let low = link_below (chain_at cells) (length cells) c.args.count links (slice_index links c.loop-link.entry - 1) own (slice_index links c.loop-link.entry - 1) c.requires.links next in
    rw i.0 (omega (arith, low, i.0, c.loop-link-test.true))

pub loop-link-preserved : goal.loop-link-preserved
loop-link-preserved c =
    let cells = c.args.cells.now in
    let links = c.args.links.now in
    let i = c.loop-link.invariant in
    let own = chain_of (length cells - 1) c.args.lo in
    let link = c.loop-link.link in
    let next = next_entry (chain_at cells) (length cells) c.args.count links c.loop-link.entry own i.2.0 c.requires.links i.2.1 (omega (arith, i.0, c.loop-link-test.true)) in
    let low = link_below (chain_at cells) (length cells) c.args.count links c.loop-link.entry own i.2.0 c.requires.links i.2.1 in
    let most = entry_bound (chain_at cells) (length cells) c.args.count c.loop-link.entry own i.2.0 i.2.1 in
    let x = c.index-cells-link.result in
    let within : link - 1 < length cells = omega (arith, low, most, i.0, c.requires.within, c.loop-link-test.true) in
    let here : x ≡ range_at cells (link - 1) = c.index-cells-link.is ∙ get_or_default cells (link - 1) x (record { lo = 0; len = 0 }) within in
    let other : (range_at cells (link - 1)).lo ≢ c.args.lo = λ e. c.if-lo.true (c.lo.ensures ∙ (ap (λ r. r.lo) here ∙ e)) in
    let rest = none_between cells c.args.count links c.args.lo c.loop-link.entry i.2.0 c.requires.links i.2.1 i.2.2 in (
      refl,
      omega (arith, within, c.requires.links.long),
      (
        link - 1,
        rw i.0 next,
        λ k ge lt. by_either (cases_eq k (link - 1)) (λ is. rw is other) (λ ne. rest k (omega (arith, ge, ne, i.0)) lt),
      ),
    )

pub returns-else-lo-clause-entry : goal.returns-else-lo-clause-entry
returns-else-lo-clause-entry c =
    let cells = c.args.cells.now in
    let links = c.args.links.now in
    let i = c.loop-link.invariant in
    let own = chain_of (length cells - 1) c.args.lo in
    let link = c.loop-link.link in
    let low = link_below (chain_at cells) (length cells) c.args.count links c.loop-link.entry own i.2.0 c.requires.links i.2.1 in
    let most = entry_bound (chain_at cells) (length cells) c.args.count c.loop-link.entry own i.2.0 i.2.1 in
    let x = c.index-cells-link.result in
    let within : link - 1 < length cells = omega (arith, low, most, i.0, c.requires.within, c.loop-link-test.true) in
    let here : x ≡ range_at cells (link - 1) = c.index-cells-link.is ∙ get_or_default cells (link - 1) x (record { lo = 0; len = 0 }) within in
    record {
      bound = i.2.0;
      own = i.2.1;
      found = λ pos. rw (← i.0) (sym (ap (λ r. r.lo) here) ∙ (sym c.lo.ensures ∙ c.if-lo.false));
      none = λ zero. absurd (omega (arith, zero, i.0, c.loop-link-test.true));
    }

pub returns-after-loop-link-clause-entry : goal.returns-after-loop-link-clause-entry
returns-after-loop-link-clause-entry c =
    let cells = c.args.cells.now in
    let links = c.args.links.now in
    let i = c.loop-link.invariant in
    let rest = none_between cells c.args.count links c.args.lo c.loop-link.entry i.2.0 c.requires.links i.2.1 i.2.2 in
    record {
      bound = i.2.0;
      own = i.2.1;
      found = λ pos. absurd (omega (arith, pos, i.0, c.loop-link-test.false));
      none = λ zero k lt. rest k (omega (arith, zero)) lt;
    }
