use Rattle.std.proofs.Common.{◌≡◌, ◌+◌, ◌-◌, refl, arith}
use Rattle.iova_tree.proofs.Blocks.{some_end, apart_at}
use Rattle.iova_tree.proofs.Hinted.{room_step}
use Rattle.iova_tree.proofs.block.hint_once_taken.Goals as goal

pub bound_with-requires-clause-some : goal.bound_with-requires-clause-some
bound_with-requires-clause-some c = rw c.end.ensures (some_end 0 c.args.spans.now c.args.hint.at c.index-spans-hint.result c.requires.rising (omega (arith, c.requires.within)) c.index-spans-hint.is)

pub bound_with-requires-clause-apart : goal.bound_with-requires-clause-apart
bound_with-requires-clause-apart c =
    let j : c.args.hint.at + 1 - 1 ≡ c.args.hint.at = omega arith in
    rw (c.end.ensures, c.lo.ensures) (apart_at 0 c.args.spans.now (c.args.hint.at + 1) c.index-spans-hint-2.result c.index-spans-hint.result c.requires.rising (omega arith) c.requires.within c.index-spans-hint-2.is (rw j c.index-spans-hint.is))

pub returns : goal.returns
returns c =
    let j : c.args.hint.at + 1 - 1 ≡ c.args.hint.at = omega arith in
    let s = rw j at (room_step (c.args.hint.at + 1) c.args.spans.now c.index-spans-hint-2.result c.index-spans-hint.result (omega arith) c.requires.within c.index-spans-hint-2.is (rw j c.index-spans-hint.is)) in
    let w = rw (c.end.ensures, c.lo.ensures) at c.bound_with.ensures in
    record { at = refl; hinted = omega (arith, s, w, c.requires.hinted) }
