use Rattle.std.proofs.Common.{◌≡◌, take}
use Rattle.std.proofs.lemmas.List.{take_all}
use Rattle.iova_core.proofs.Reclaims.{frees_none, frees_next, has_next}
use Rattle.iova_core.proofs.reclaim.free_magazine.Goals as goal

pub loop-lo-init : goal.loop-lo-init
loop-lo-init c = frees_none c.args.tree.now c.requires.space

pub free-requires-clause-space : goal.free-requires-clause-space
free-requires-clause-space c = c.loop-lo.invariant.space

pub free-requires-clause-held : goal.free-requires-clause-held
free-requires-clause-held c =
    let lt = rw c.entries-lo-items.ensures.is at c.loop-lo-test.true in
    rw (c.range_of.ensures, c.entries-lo-items.ensures.is) (has_next c.args.tree.now c.loop-lo.tree c.args.order c.loop-lo.lo-index c.args.magazine.now.entries lt c.requires.held c.loop-lo.invariant)

pub loop-lo-preserved : goal.loop-lo-preserved
loop-lo-preserved c =
    let lt = rw c.entries-lo-items.ensures.is at c.loop-lo-test.true in
    frees_next c.args.tree.now c.loop-lo.tree c.free.new.tree c.args.order c.loop-lo.lo-index c.args.magazine.now.entries lt c.loop-lo.invariant (rw (c.range_of.ensures, c.entries-lo-items.ensures.is) at c.free.ensures)

pub returns : goal.returns
returns c =
    let all : take c.loop-lo.lo-index c.args.magazine.now.entries ≡ c.args.magazine.now.entries = take_all c.loop-lo.lo-index c.args.magazine.now.entries (rw c.entries-lo-items.ensures.is at c.loop-lo-test.false) in
    rw all at c.loop-lo.invariant
