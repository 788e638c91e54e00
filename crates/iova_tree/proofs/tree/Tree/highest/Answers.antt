use Rattle.std.proofs.Common.{◌≡◌, ◌+◌, min, refl, arith}
use Rattle.iova_tree.specs.Fit.{IsWanted}
use Rattle.iova_tree.specs.declared.search.Wanted.{Wanted}
use Rattle.iova_model.proofs.Placing.{best-from}
use Rattle.iova_tree.proofs.Allocated.{kept_space}
use Rattle.iova_tree.proofs.Fits.{highest_free-best}
use Rattle.iova_tree.proofs.Kept.{best_kept}
use Rattle.iova_tree.proofs.Spaces.{space_some}
use Rattle.iova_tree.proofs.tree.Tree.highest.Goals as goal

pub highest-requires-clause-wanted : goal.highest-requires-clause-wanted
highest-requires-clause-wanted c = record { some = c.requires.some; bounded = c.requires.bounded; align = c.align_of.ensures.computed; small = omega (arith, c.min.ensures, c.last.ensures.small) }

pub highest-requires-clause-rising : goal.highest-requires-clause-rising
highest-requires-clause-rising c = rw c.start.ensures.is c.self.invariant.within.0

pub returns-clause-greatest : goal.returns-clause-greatest
returns-clause-greatest c =
    let i = c.self.inside in
    let w : Wanted = record { size = c.args.size; align = c.align_of.result; cap = c.min.result + 1 } in
    let wanted : IsWanted w = record { some = c.requires.some; bounded = c.requires.bounded; align = c.align_of.ensures.computed; small = omega (arith, c.min.ensures, c.last.ensures.small) } in
    let cap : w.cap ≡ min c.args.limit i.bounds.last + 1 = rw (c.min.ensures, c.last.ensures.is) refl in
    let best = highest_free-best i.bounds w c.args.limit i.ranges wanted cap c.self.invariant.within.0 in
    rw (← c.self.view_is, c.highest.ensures, c.start.ensures.is) (best_kept i.bounds i.ranges i.windows.items c.args.size c.args.limit _ c.self.invariant best)

pub returns-clause-computed : goal.returns-clause-computed
returns-clause-computed c =
    let i = c.self.inside in
    let greatest = rw (← c.self.view_is) at (returns-clause-greatest c) in
    rw (← c.self.view_is) (best-from _ _ c.args.size c.args.limit _ c.requires.some (space_some _ (kept_space i.bounds i.ranges i.windows.items c.self.invariant)) greatest)
