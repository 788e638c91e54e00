use Rattle.std.proofs.Common.{◌≡◌, ◌+◌, ◌<◌, suc, length, take, drop}
use Rattle.iova_tree.specs.Fit.{highest_after}
use Rattle.iova_tree.specs.Branches.{spans_below, AreLinked}
use Rattle.iova_tree.proofs.branch.take_highest.Given as goal

-- the ranges are those of before, and what is sought lies behind the links up to this one
abbrev pub invariant-loop-at : goal.invariant-loop-at
invariant-loop-at g l =
    (l.at < length l.links)
    × AreLinked g.N.Node.spans l.links
    × (spans_below g.N.Node.spans l.links ≡ spans_below g.N.Node.spans l.initial.links)
    × (highest_after l.wanted l.from (spans_below g.N.Node.spans l.initial.links) ≡ highest_after l.wanted l.from (spans_below g.N.Node.spans (take (suc l.at) l.links)))
    × (drop (l.start + 1) l.links ≡ drop (l.start + 1) l.initial.links)
    × (l.at < l.start + 1)

abbrev pub decreases-loop-at : goal.decreases-loop-at
decreases-loop-at g l = l.at
