use Rattle.std.proofs.Common.{◌≡◌, ◌≢◌, ◌<◌, ◌≤◌, ap, ◌∙◌, sym, inl, inr, arith, rules}
use Rattle.std.proofs.lemmas.Bool.{cases_lt}
use Rattle.std.specs.BTreeMap.{get}
use Rattle.std.specs.Ordering.{nat_cmp}
use Rattle.iova_check.specs.History.{with_change}
use Rattle.iova_check.specs.Marks.{stage_at}
use Rattle.iova_check.proofs.Marks.{shown_bare}
use Rattle.iova_check.proofs.stages.Stages.change.Goals as goal

pub loop-at-preserved-in_ok-put : goal.loop-at-preserved-in_ok-put
loop-at-preserved-in_ok-put c =
    let so_far = c.loop-at.invariant in
    let put = c.in_ok-put.ensures in
    let before : c.args.lo ≤ c.loop-at.at = so_far.from in
    let after : c.loop-at.at < c.end_of_change-end.result = c.end_of_change-end.ensures.after in
    let other : c.of-stage.result ≢ c.stage-before.result = search rules in
    let new : c.of-stage.result ≡ with_change c.args.change (stage_at c.loop-at.self c.loop-at.at) = c.of-stage.ensures ∙ ap (with_change c.args.change) c.stage-before.ensures in
    let bare = c.end_of_change-end.ensures.bare (λ same. other (new ∙ (same ∙ sym c.stage-before.ensures))) in
    record {
      from = omega arith;
      within = c.end_of_change-end.ensures.within;
      inside = λ f from under. elim (cases_lt f c.loop-at.at) [
        | inl below ↦ put.below f below ∙ so_far.inside f from below
        | inr above ↦
            let one : stage_at c.loop-at.self f ≡ stage_at c.loop-at.self c.loop-at.at =
            shown_bare (get nat_cmp c.loop-at.self.marks) c.loop-at.at f above (λ q lt le. bare q lt (omega arith)) in
            put.inside f above under ∙ (new ∙ ap (with_change c.args.change) (sym one ∙ so_far.above f above))
      ];
      below = λ f below. put.below f (omega arith) ∙ so_far.below f below;
      above = λ f above. put.above f above ∙ so_far.above f (omega arith);
    }

pub loop-at-preserved : goal.loop-at-preserved
loop-at-preserved c =
    let so_far = c.loop-at.invariant in
    let before : c.args.lo ≤ c.loop-at.at = so_far.from in
    let after : c.loop-at.at < c.end_of_change-end.result = c.end_of_change-end.ensures.after in
    let same : c.of-stage.result ≡ c.stage-before.result = search rules in
    let stays : with_change c.args.change (stage_at c.loop-at.self c.loop-at.at) ≡ stage_at c.loop-at.self c.loop-at.at =
    ap (with_change c.args.change) (sym c.stage-before.ensures) ∙ (sym c.of-stage.ensures ∙ (same ∙ c.stage-before.ensures)) in
    record {
      from = omega arith;
      within = c.end_of_change-end.ensures.within;
      inside = λ f from under. elim (cases_lt f c.loop-at.at) [
        | inl below ↦ so_far.inside f from below
        | inr above ↦ sym (c.end_of_change-end.ensures.kept stays f above under) ∙ ap (with_change c.args.change) (so_far.above f above)
      ];
      below = λ f below. so_far.below f below;
      above = λ f above. so_far.above f (omega arith);
    }
