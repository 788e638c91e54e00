use Rattle.std.proofs.Common.{inl, inr, refl, arith}
use Rattle.iova_c.proofs.Granules.{none_of, shifted}
use Rattle.iova_c.proofs.granule.granule_of.Goals as goal
use Rattle.iova_c.proofs.granule.granule_of.Goals.{then-shift-lt12-via-then-shift-lt12, then-shift-lt12-via-else-shift-lt12+then-shift-gt21, then-shift-lt12-via-else-shift-lt12+else-shift-gt21+then-bytes-shift}

pub returns-then-shift-lt12-clause-accepted : goal.returns-then-shift-lt12-clause-accepted
returns-then-shift-lt12-clause-accepted c = (
  λ yes. absurd cc,
  λ is. absurd (elim c.then-shift-lt12.branch [
    | then-shift-lt12-via-then-shift-lt12 w ↦ none_of c.args.bytes _ refl (inl (omega (arith, w.if-shift-lt12.true))) is
    | then-shift-lt12-via-else-shift-lt12+then-shift-gt21 w ↦ none_of c.args.bytes _ refl (inr (inl (omega (arith, w.if-shift-gt21.true)))) is
    | then-shift-lt12-via-else-shift-lt12+else-shift-gt21+then-bytes-shift w ↦ none_of c.args.bytes _ refl (inr (inr w.if-bytes-shift.true)) is
  ]),
)

pub invariant_of-result : goal.invariant_of-result
invariant_of-result c = shifted c.args.bytes _ (omega (arith, c.if-shift-lt12.false)) (omega (arith, c.if-shift-gt21.false)) c.if-bytes-shift.false
