use Rattle.std.proofs.Common.{◌-◌, inr, length, slice_index, refl, arith}
use Rattle.iova_clients.specs.Chains.{chain_at}
use Rattle.iova_clients.proofs.Linking.{entry_bound, next_entry, link_below}
use Rattle.iova_clients.proofs.chains.entry_above.Goals as goal

pub loop-link-init : goal.loop-link-init
loop-link-init c =
    (refl, omega (arith, c.requires.links.long, c.requires.chain), (c.args.count, inr (refl, c.requires.chain, refl), c.requires.place))

pub bounds-links-entry-in-loop-link : goal.bounds-links-entry-in-loop-link
bounds-links-entry-in-loop-link c =
    let cells = c.args.cells.now in
    let i = c.loop-link.invariant in
    let low = link_below (chain_at cells) (length cells) c.args.count c.args.links.now c.loop-link.entry c.args.chain i.2.0 c.requires.links i.2.1 in
    let most = entry_bound (chain_at cells) (length cells) c.args.count c.loop-link.entry c.args.chain i.2.0 i.2.1 in
    omega (arith, low, most, i.0, c.requires.links.long, c.requires.within, c.loop-link-test.true)

pub loop-link-smaller : goal.loop-link-smaller
loop-link-smaller c =
    let cells = c.args.cells.now in
    let links = c.args.links.now in
    let i = c.loop-link.invariant in
    let next = next_entry (chain_at cells) (length cells) c.args.count links c.loop-link.entry c.args.chain i.2.0 c.requires.links i.2.1 (omega (arith, i.0, c.loop-link-test.true)) in
    let low = link_below (chain_at cells) (length cells) c.args.count links (slice_index links c.loop-link.entry - 1) c.args.chain (slice_index links c.loop-link.entry - 1) c.requires.links next in
    rw i.0 (omega (arith, low, i.0, c.loop-link-test.true))

pub loop-link-preserved : goal.loop-link-preserved
loop-link-preserved c =
    let cells = c.args.cells.now in
    let links = c.args.links.now in
    let i = c.loop-link.invariant in
    let next = next_entry (chain_at cells) (length cells) c.args.count links c.loop-link.entry c.args.chain i.2.0 c.requires.links i.2.1 (omega (arith, i.0, c.loop-link-test.true)) in
    let low = link_below (chain_at cells) (length cells) c.args.count c.args.links.now c.loop-link.entry c.args.chain i.2.0 c.requires.links i.2.1 in
    let most = entry_bound (chain_at cells) (length cells) c.args.count c.loop-link.entry c.args.chain i.2.0 i.2.1 in
    (refl, omega (arith, low, most, i.0, c.requires.links.long, c.requires.within, c.loop-link-test.true), (c.loop-link.link - 1, rw i.0 next, omega (arith, c.loop-link-test.true)))
