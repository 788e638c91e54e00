use Rattle.std.proofs.Common.{◌≡◌, ◌+◌, ◌-◌, suc, arith}
use Rattle.std.proofs.lemmas.Nat.{leading_top}
use Rattle.std.specs.Int.Count.{count_leading_zeros}
use Rattle.iova_tree.proofs.room.last_place.Goals as goal

pub returns-clause-below : goal.returns-clause-below
returns-clause-below c =
    let t = leading_top 64 c.args.n c.requires c.ranges.n.fits in
    let e : 63 - count_leading_zeros 64 c.args.n ≡ t.0 = omega (arith, t.1) in
    rw e t.2

pub returns-clause-above : goal.returns-clause-above
returns-clause-above c =
    let t = leading_top 64 c.args.n c.requires c.ranges.n.fits in
    let e : 63 - count_leading_zeros 64 c.args.n + 1 ≡ suc t.0 = omega (arith, t.1) in
    rw e t.3
