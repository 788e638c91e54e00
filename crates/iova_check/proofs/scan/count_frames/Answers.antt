use Rattle.std.proofs.Common.{ℕ, ◌≡◌, ◌∙◌, ◌+◌, ◌-◌, ◌<◌, ◌≤◌, Option, Bool, true, false, ap, sym, arith, rules}
use Rattle.std.specs.Prelude.{is_some}
use Rattle.iova_check.specs.declared.stage.Stage.{Stage}
use Rattle.iova_check.specs.Marks.{stage_at}
use Rattle.iova_check.specs.Findings.{since_of}
use Rattle.iova_check.specs.Counting.{count_below}
use Rattle.iova_check.proofs.CountedFrames.{count_none, count_all, count_no}
use Rattle.iova_check.proofs.scan.count_frames.Goals as goal

pub loop-at-init : goal.loop-at-init
loop-at-init c = record { is = sym (count_none _); few = omega arith }

pub loop-at-preserved-then-is_some : goal.loop-at-preserved-then-is_some
loop-at-preserved-then-is_some c =
    let passes : ℕ → Bool = λ f. is_some (since_of c.args.kind (stage_at c.args.stages.now f)) in
    let at = c.loop-at.at in
    let end = c.end-end.result in
    let after : at < end = c.end-end.ensures.after in
    let so : is_some c.told.result ≡ true = search rules in
    let here : passes at ≡ true = ap (λ (s : Stage). is_some (since_of c.args.kind s)) (sym c.stage.ensures) ∙ (ap (λ (o : Option (Option ℕ)). is_some o) (sym c.told.ensures) ∙ so) in
    let all = count_all passes at (end - at) (λ f from under. ap (λ (s : Stage). is_some (since_of c.args.kind s)) (c.end-end.ensures.same f from (omega arith)) ∙ here) in
    let whole : at + (end - at) ≡ end = omega arith in
    let moved : count_below passes (at + (end - at)) ≡ count_below passes end = ap (count_below passes) whole in
    let was : c.loop-at.count ≡ count_below passes at = c.loop-at.invariant.is in
    let few : c.loop-at.count ≤ at = c.loop-at.invariant.few in
    record { is = omega (arith, all, moved, was); few = omega arith }

pub loop-at-preserved : goal.loop-at-preserved
loop-at-preserved c =
    let passes : ℕ → Bool = λ f. is_some (since_of c.args.kind (stage_at c.args.stages.now f)) in
    let at = c.loop-at.at in
    let end = c.end-end.result in
    let after : at < end = c.end-end.ensures.after in
    let so : is_some c.told.result ≡ false = search rules in
    let here : passes at ≡ false = ap (λ (s : Stage). is_some (since_of c.args.kind s)) (sym c.stage.ensures) ∙ (ap (λ (o : Option (Option ℕ)). is_some o) (sym c.told.ensures) ∙ so) in
    let none = count_no passes at (end - at) (λ f from under. ap (λ (s : Stage). is_some (since_of c.args.kind s)) (c.end-end.ensures.same f from (omega arith)) ∙ here) in
    let whole : at + (end - at) ≡ end = omega arith in
    let moved : count_below passes (at + (end - at)) ≡ count_below passes end = ap (count_below passes) whole in
    let was : c.loop-at.count ≡ count_below passes at = c.loop-at.invariant.is in
    let few : c.loop-at.count ≤ at = c.loop-at.invariant.few in
    record { is = omega (arith, none, moved, was); few = omega arith }
