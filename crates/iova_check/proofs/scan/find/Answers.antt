use Rattle.std.proofs.Common.{◌≡◌, inl, inr, None, arith, rules}
use Rattle.std.proofs.lemmas.Bool.{cases_lt}
use Rattle.iova_check.proofs.scan.find.Goals as goal

pub loop-at-preserved : goal.loop-at-preserved
loop-at-preserved c =
    let is : c.told.result ≡ None = search rules in
    let next = c.skip-at.ensures in
    record {
      from = omega arith;
      within = next.within;
      none = λ f from under. elim (cases_lt f c.loop-at.at) [
        | inl below ↦ c.loop-at.invariant.none f from below
        | inr above ↦ next.none f above under
      ];
    }
