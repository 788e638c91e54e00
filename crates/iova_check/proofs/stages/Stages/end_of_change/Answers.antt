use Rattle.std.proofs.Common.{ℕ, ◌≡◌, ◌≤◌, ◌<◌, ◌∙◌, false, ap, sym, arith}
use Rattle.iova_check.specs.declared.stage.Change.{Change}
use Rattle.iova_check.specs.History.{with_change}
use Rattle.iova_check.specs.Marks.{stage_at}
use Rattle.iova_check.specs.StageIndex.{is_stale}
use Rattle.iova_check.proofs.Marks.{leaves}
use Rattle.iova_check.proofs.stages.Stages.end_of_change.Goals as goal

pub returns-in-Flushed : goal.returns-in-Flushed
returns-in-Flushed c =
    let at = stage_at c.args.self.now in
    let after : c.args.frame < c.next_stale.result = c.next_stale.ensures.after in
    let here : is_stale (at c.args.frame) ≡ false = ap is_stale (sym c.stage.ensures) ∙ (sym c.is_stale.ensures ∙ c.if-not-is_stale.true) in
    let left : (f : ℕ) → c.args.frame ≤ f → f < c.next_stale.result → with_change c.args.change (at f) ≡ at f = λ f from under.
    ap (λ (x : Change). with_change x (at f)) c.in-Flushed.is ∙ leaves c.in-Flushed.field-0 (at f)
    (c.next_stale.ensures.none here f from under) in
    record {
      after = after;
      within = c.next_stale.ensures.within;
      bare = λ other. absurd (other (left c.args.frame (omega arith) after));
      kept = λ _. left;
    }
