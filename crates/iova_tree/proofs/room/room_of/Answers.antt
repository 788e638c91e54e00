use Rattle.std.proofs.Common.{◌≡◌, ℕ, ◌+◌, ◌-◌, ◌*◌, ◌/◌, ◌%◌, ◌^◌, ◌<◌, ◌≤◌, sym, ◌∙◌, arith}
use Rattle.std.proofs.Math.Nat.{mod-eq_of_lt, div-mul-le_self}
use Rattle.iova_tree.proofs.Rooms.{split_at, room-nothing, room-above, room-both, room-covers, room-fits}
use Rattle.iova_tree.proofs.room.room_of.Goals.{then-below-eq0, else-below-eq0}
use Rattle.iova_tree.proofs.room.room_of.Goals as goal

-- the frames that are computed are those of the split
shifted : (x k : ℕ) → x < 2 ^ 64 → x / 2 ^ k * 2 ^ k % 18446744073709551616 ≡ x / 2 ^ k * 2 ^ k
shifted x k fits = mod-eq_of_lt (omega (arith, div-mul-le_self x (2 ^ k)))

one_shifted : (p : ℕ) → p < 2 ^ 64 → 1 * p % 18446744073709551616 ≡ p
one_shifted p fits = let e : 1 * p ≡ p = omega arith in rw e (mod-eq_of_lt fits)

pub returns-then-from-until-clause-greatest : goal.returns-then-from-until-clause-greatest
returns-then-from-until-clause-greatest c = sym (room-nothing c.args.from c.args.until c.if-from-until.true)

pub overflow_sub-below : goal.overflow_sub-below
overflow_sub-below c =
    let e = c.last_place-shift.ensures in
    let s = split_at c.args.from c.args.until c.last_place-shift.result c.requires c.if-from-until.false e.below e.above in
    rw (shifted (c.args.until - 1) c.last_place-shift.result (omega (arith, c.ranges.until.fits))) s.above_from

pub returns-clause-greatest : goal.returns-clause-greatest
returns-clause-greatest c =
    let j = c.last_place-shift.result in
    let m = (c.args.until - 1) / 2 ^ j in
    let e = c.last_place-shift.ensures in
    let s = split_at c.args.from c.args.until j c.requires c.if-from-until.false e.below e.above in
    let sh = shifted (c.args.until - 1) j (omega (arith, c.ranges.until.fits)) in
    elim c.if-below-eq0.branch [
      | then-below-eq0 w ↦
          let none : m * 2 ^ j - c.args.from ≡ 0 = rw sh at w.if-below-eq0.true in
          c.min.ensures ∙ rw (w.best-is, sh) (room-above c.args.from c.args.until j m s none)
      | else-below-eq0 w ↦
          let i = w.last_place.result in
          let k = w.last_place.ensures in
          let low : 2 ^ i ≤ m * 2 ^ j - c.args.from = rw sh at k.below in
          let high : m * 2 ^ j - c.args.from < 2 ^ (i + 1) = rw sh at k.above in
          let power : 1 * 2 ^ i % 18446744073709551616 ≡ 2 ^ i = one_shifted (2 ^ i) (omega (arith, s.below_until, c.ranges.until.fits)) in
          c.min.ensures ∙ rw (w.best-is, w.max-best.ensures, power, sh) (room-both c.args.from c.args.until j m i s low high)
    ]

pub returns-clause-prunes_no_fit : goal.returns-clause-prunes_no_fit
returns-clause-prunes_no_fit c = λ size some bounded f. let e = returns-clause-greatest c in rw e (room-covers c.args.from c.args.until size bounded f)

pub returns-clause-fits : goal.returns-clause-fits
returns-clause-fits c = λ some. let e = returns-clause-greatest c in rw e (room-fits c.args.from c.args.until (rw e at some))
