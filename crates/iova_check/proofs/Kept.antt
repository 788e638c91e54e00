-- The promise at a line, and the stage before it.
use Rattle.std.proofs.Common.{ℕ, ◌≡◌, ◌∙◌, ◌<◌, inl, inr, List, [], ◌∷◌, sym, ap, subst, arith}
use Rattle.std.specs.Prelude.{◌==◌}
use Rattle.std.proofs.lemmas.Bool.{cond-true, cond-false, cases_lt, eq-eqb, ne_eqb}
use Rattle.iova_check.specs.declared.event.Event.{Event}
use Rattle.iova_check.specs.declared.stage.Stage.{Stage}
use Rattle.iova_check.specs.declared.stage.Stage.TheVariants as stage
use Rattle.iova_check.specs.History.{next_line, stage_of}
use Rattle.iova_check.specs.Promise.{NoneAfter, maps, unmaps, MayBeGiven, IsStage, lines_before, IsKeptAt, PromiseIsTold}
use Rattle.iova_check.proofs.Lines.{line_old, line_bound, line_above, line_cases, line_more, between_more, between_less, flush_bound, flush_more, flush_less, takes_more, takes_less}
use Rattle.iova_check.proofs.FrameStages.{stage_is, stages_are_told}

-- At the newest line

pub kept_from_given : (e : Event) (past : List Event) (f : ℕ) → MayBeGiven past f → IsKeptAt (e ∷ past) f (next_line past)
kept_from_given e past f h = record {
  unmapped = λ m lt is.
      let later = h.unmapped m (sym (line_old (maps f) e past m lt) ∙ is) in
      (later.0, later.1, line_bound (unmaps f) past later.0 later.2, line_more (unmaps f) e past later.0 later.2);
  flushed = λ m lt taken none.
      let last : NoneAfter (maps f) past m = λ k after. elim (cases_lt k (next_line past)) [
        | inl under ↦ sym (line_old (maps f) e past k under) ∙ none k after under
        | inr above ↦ line_above (maps f) past k above
      ] in
      let flush = h.flushed m (takes_less e past f m lt taken) last in
      (flush.0, flush.1, flush.2, flush_bound past f flush.0 flush.1 flush.3, flush_more e past f flush.0 flush.1 flush.3);
}

pub given_from_kept : (e : Event) (past : List Event) (f : ℕ) → IsKeptAt (e ∷ past) f (next_line past) → MayBeGiven past f
given_from_kept e past f h = record {
  unmapped = λ m is.
      let later = h.unmapped m (line_bound (maps f) past m is) (line_more (maps f) e past m is) in
      (later.0, later.1, sym (line_old (unmaps f) e past later.0 later.2) ∙ later.3);
  flushed = λ m taken last.
      let flush = h.flushed m (line_bound (unmaps f) past m taken.unmapped) (takes_more e past f m taken) (λ k after under. line_old (maps f) e past k under ∙ last k after) in
      (flush.0, flush.1, flush.2, flush_less e past f flush.0 flush.1 flush.3 flush.4);
}

-- At a line before it

kept_more : (e : Event) (past : List Event) (f n : ℕ) → n < next_line past → IsKeptAt past f n → IsKeptAt (e ∷ past) f n
kept_more e past f n below h = record {
  unmapped = λ m lt is.
      let later = h.unmapped m lt (sym (line_old (maps f) e past m (omega arith)) ∙ is) in
      (later.0, later.1, later.2, line_more (unmaps f) e past later.0 later.3);
  flushed = λ m lt taken none.
      let flush = h.flushed m lt (takes_less e past f m (omega arith) taken) (between_less (maps f) e past m n (omega arith) none) in
      (flush.0, flush.1, flush.2, flush.3, flush_more e past f flush.0 flush.1 flush.4);
}

kept_less : (e : Event) (past : List Event) (f n : ℕ) → n < next_line past → IsKeptAt (e ∷ past) f n → IsKeptAt past f n
kept_less e past f n below h = record {
  unmapped = λ m lt is.
      let later = h.unmapped m lt (line_more (maps f) e past m is) in
      let under : later.0 < n = later.2 in
      (later.0, later.1, later.2, sym (line_old (unmaps f) e past later.0 (omega arith)) ∙ later.3);
  flushed = λ m lt taken none.
      let flush = h.flushed m lt (takes_more e past f m taken) (between_more (maps f) e past m n (omega arith) none) in
      let under : flush.1 < n = flush.3 in
      (flush.0, flush.1, flush.2, flush.3, flush_less e past f flush.0 flush.1 (omega arith) flush.4);
}

-- Any line

pub free_is : (past : List Event) (f : ℕ) → MayBeGiven past f → stage_of past f ≡ stage.Free
free_is past f h = sym ((stages_are_told past f).only stage.Free h)

pub given_is : (past : List Event) (f : ℕ) → stage_of past f ≡ stage.Free → MayBeGiven past f
given_is past f is = let P : Stage → Type 0 = IsStage past f in subst P is (stage_is past f)

pub promise_is_told : PromiseIsTold
promise_is_told [] f n is = absurd cc
promise_is_told (e ∷ past) f n is = elim (line_cases (maps f) e past n is) [
  | inl new ↦
      let here : lines_before (e ∷ past) n ≡ past = cond-true (n == next_line past) past (lines_before past n) (eq-eqb n (next_line past) new.0) in
      let P : ℕ → Type 0 = λ x. IsKeptAt (e ∷ past) f x in (
        λ kept. ap (λ x. stage_of x f) here ∙ free_is past f (given_from_kept e past f (subst P new.0 kept)),
        λ free. subst P (sym new.0) (kept_from_given e past f (given_is past f (sym (ap (λ x. stage_of x f) here) ∙ free))),
      )
  | inr old ↦
      let other : n ≡ next_line past → ⊥ = λ same. let under : n < next_line past = old.0 in absurd (omega arith) in
      let there : lines_before (e ∷ past) n ≡ lines_before past n = cond-false (n == next_line past) past (lines_before past n) (ne_eqb n (next_line past) other) in
      let rest = promise_is_told past f n old.1 in (
        λ kept. ap (λ x. stage_of x f) there ∙ rest.0 (kept_less e past f n old.0 kept),
        λ free. kept_more e past f n old.0 (rest.1 (sym (ap (λ x. stage_of x f) there) ∙ free)),
      )
]
