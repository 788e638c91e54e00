use Rattle.std.proofs.Common.{ℕ, ◌≡◌, ◌<◌, ◌≤◌, ◌∙◌, refl, arith, None}
use Rattle.std.specs.BTreeMap.{get}
use Rattle.std.specs.Ordering.{nat_cmp}
use Rattle.iova_check.proofs.Marks.{shown_at, shown_bare, shown_along, shown_below, same_at}
use Rattle.iova_check.proofs.stages.Stages.put.Goals as goal

pub returns-clause-inside : goal.returns-clause-inside
returns-clause-inside c = λ f from below.
    let mark = get nat_cmp c.mark.new.self.marks in
    let bare : (q : ℕ) → c.args.at < q → q ≤ f → mark q ≡ None = λ q after under.
    c.in_ok-mark.ensures.others q (λ same. absurd (omega arith))
    ∙ (c.in_ok-cut.ensures.others q (λ same. absurd (omega arith)) ∙ c.requires.bare q after (omega arith)) in
    c.join-2.ensures f ∙ (c.join.ensures f ∙ (shown_bare mark c.args.at f from bare ∙ shown_at mark c.args.at c.args.stage c.in_ok-mark.ensures.marked))

pub returns-clause-below : goal.returns-clause-below
returns-clause-below c = λ f below.
    c.join-2.ensures f ∙ (c.join.ensures f ∙ (
    shown_below (get nat_cmp c.cut.new.self.marks) (get nat_cmp c.mark.new.self.marks) f (λ q le. c.in_ok-mark.ensures.others q (λ same. absurd (omega arith)))
    ∙ c.in_ok-cut.ensures.same f
    ))

pub returns-clause-above : goal.returns-clause-above
returns-clause-above c = λ f above.
    let cut = get nat_cmp c.cut.new.self.marks in
    let mark = get nat_cmp c.mark.new.self.marks in
    let before : c.args.at < c.args.end = c.requires.some in
    let here : mark c.args.end ≡ cut c.args.end = c.in_ok-mark.ensures.others c.args.end (λ same. absurd (omega arith)) in
    c.join-2.ensures f ∙ (c.join.ensures f ∙ (
    shown_along cut mark c.args.end f (same_at cut mark c.args.end (cut c.args.end) refl c.in_ok-cut.ensures.marked here) above
    (λ q after under. c.in_ok-mark.ensures.others q (λ same. absurd (omega arith)))
    ∙ c.in_ok-cut.ensures.same f
    ))
