use Rattle.std.proofs.Common.{◌≤◌, ◌-◌, inl, inr, arith}
use Rattle.iova_tree.specs.Spans.{room_between}
use Rattle.std.specs.Prelude.{remove}
use Rattle.iova_tree.proofs.Blocks.{some_end, removed_edge, removed_inside, around_apart}
use Rattle.iova_tree.proofs.block.room_without.Goals.{then-at-eq0-via-then-at-eq0, then-at-eq0-via-else-at-eq0+then-at-spans}
use Rattle.iova_tree.proofs.block.room_without.Goals as goal

pub returns-then-at-eq0 : goal.returns-then-at-eq0
returns-then-at-eq0 c =
    let less : room_between (remove c.args.spans.now c.args.at) ≤ room_between c.args.spans.now = elim c.then-at-eq0.branch [
      | then-at-eq0-via-then-at-eq0 w ↦ removed_edge c.args.spans.now c.args.at (inl w.if-at-eq0.true)
      | then-at-eq0-via-else-at-eq0+then-at-spans w ↦ removed_edge c.args.spans.now c.args.at (inr w.if-at-spans.true)
    ] in
    omega (arith, less, c.requires.known)

pub room_with-requires : goal.room_with-requires
room_with-requires c = record {
  some = rw c.end.ensures (some_end 0 c.args.spans.now (c.args.at - 1) c.index-spans-at.result c.requires.rising (omega (arith, c.requires.within)) c.index-spans-at.is);
  apart = rw (c.end.ensures, c.lo.ensures) (around_apart c.args.spans.now c.args.at c.index-spans-at.result c.index-spans-at-2.result c.requires.rising (omega (arith, c.if-at-eq0.false)) (omega (arith, c.requires.within, c.if-at-spans.false)) c.index-spans-at.is c.index-spans-at-2.is);
}

pub returns : goal.returns
returns c =
    let r = removed_inside c.args.spans.now c.args.at c.index-spans-at.result c.index-spans-at-2.result (omega (arith, c.if-at-eq0.false)) (omega (arith, c.requires.within, c.if-at-spans.false)) c.index-spans-at.is c.index-spans-at-2.is c.requires.rising in
    let w = rw (c.end.ensures, c.lo.ensures) at c.room_with.ensures in
    omega (arith, r, w, c.requires.known)
