use Rattle.std.proofs.Common.{◌≡◌, ◌∙◌, ap, sym, inl, inr, Some, arith, rules}
use Rattle.std.proofs.lemmas.Bool.{cases_lt}
use Rattle.iova_check.specs.Findings.{since_of}
use Rattle.iova_check.proofs.scan.stretch.Goals as goal

pub loop-at-init : goal.loop-at-init
loop-at-init c = record {
  after = c.end-at.ensures.after;
  within = c.end-at.ensures.within;
  same = λ f from under. ap (since_of c.args.kind) (c.end-at.ensures.same f from under) ∙ c.requires.first;
}

pub loop-at-preserved : goal.loop-at-preserved
loop-at-preserved c =
    let is : c.told.result ≡ Some c.args.since = search rules in
    let next = c.end-at-in-loop-at.ensures in
    record {
      after = omega arith;
      within = next.within;
      same = λ f from under. elim (cases_lt f c.loop-at.at) [
        | inl below ↦ c.loop-at.invariant.same f from below
        | inr above ↦ ap (since_of c.args.kind) (next.same f above under ∙ sym c.stage.ensures) ∙ (sym c.told.ensures ∙ is)
      ];
    }
