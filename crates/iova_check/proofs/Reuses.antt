-- The findings of a line that maps frames, and the promise.
use Rattle.std.proofs.Common.{ℕ, ◌≡◌, ◌∙◌, ◌+◌, ◌<◌, ◌≤◌, false, List, [], ◌∷◌, Option, Some, None, refl, sym, ap, arith}
use Rattle.std.specs.Prelude.{◌↔◌, nat_lt, nat_le}
use Rattle.std.specs.List.{list_any}
use Rattle.std.proofs.lemmas.Bool.{and_parts, and_from, ltb-true, leb-true, lt-ltb, le-leb}
use Rattle.iova_range.specs.Frames.{Frames}
use Rattle.iova_check.specs.declared.event.Event.{Event}
use Rattle.iova_check.specs.declared.event.Event.TheVariants as event
use Rattle.iova_check.specs.declared.stage.OpenFlush.{OpenFlush}
use Rattle.iova_check.specs.declared.stage.Stage.{Stage}
use Rattle.iova_check.specs.declared.stage.Stage.TheVariants as stage
use Rattle.iova_check.specs.declared.finding.Kind.TheVariants as kind
use Rattle.iova_check.specs.declared.finding.Run.{Run}
use Rattle.iova_check.specs.declared.finding.Finding.{Finding}
use Rattle.iova_check.specs.AllowedBounds.{AllowedBounds}
use Rattle.iova_check.specs.History.{stage_of}
use Rattle.iova_check.specs.Findings.{since_of, IsFound, IsRun, of_run, IsMapTold, is_reuse, AreFindings, IsKeptNext, TellsBreaks}
use Rattle.iova_check.proofs.Kept.{free_is, given_is, kept_from_given, given_from_kept}

-- a stage with neither finding
neither : (s : Stage) → since_of kind.Overlap s ≡ None → since_of kind.Reused s ≡ None → s ≡ stage.Free
neither stage.Free a b = refl
neither (stage.Mapped since) a b = absurd cc
neither (stage.Stale since) a b = absurd cc

-- the first frame of what is found
found_first : (tells : ℕ → Option (Option ℕ)) (lo to : ℕ) (run : Run) → IsRun tells lo to run → tells run.lo ≡ Some run.since
found_first tells lo to run h = let some : 1 ≤ run.len = h.some in h.same run.lo (omega arith) (omega arith)

-- no finding of frames without one
not_found : (tells : ℕ → Option (Option ℕ)) (lo to : ℕ) (found : Option Run) → IsFound tells lo to found
    → ((f : ℕ) → lo ≤ f → f < to → tells f ≡ None) → found ≡ None
not_found tells lo to None h none = refl
not_found tells lo to (Some run) h none =
    let some : 1 ≤ run.len = h.some in
    let within : run.lo + run.len ≤ to = h.within in
    let one : Some run.since ≡ None = sym (found_first tells lo to run h) ∙ none run.lo h.from (omega arith) in
    absurd cc

found_none : (tells : ℕ → Option (Option ℕ)) (lo to : ℕ) (found : Option Run) → IsFound tells lo to found → found ≡ None
    → (f : ℕ) → lo ≤ f → f < to → tells f ≡ None
found_none tells lo to None h is f from under = h f from under
found_none tells lo to (Some run) h is f from under = absurd cc

-- of three findings that may be, none is of reuse
none_of : (outside overlap reused : Option Run)
    → list_any is_reuse (of_run kind.Outside outside ∷ of_run kind.Overlap overlap ∷ of_run kind.Reused reused ∷ []) ≡ false
    → (overlap ≡ None) × (reused ≡ None)
none_of None None None h = (refl, refl)
none_of None None (Some run) h = absurd cc
none_of None (Some run) None h = absurd cc
none_of None (Some run) (Some other) h = absurd cc
none_of (Some out) None None h = (refl, refl)
none_of (Some out) None (Some run) h = absurd cc
none_of (Some out) (Some run) None h = absurd cc
none_of (Some out) (Some run) (Some other) h = absurd cc

of_none : (outside overlap reused : Option Run) → overlap ≡ None → reused ≡ None
    → list_any is_reuse (of_run kind.Outside outside ∷ of_run kind.Overlap overlap ∷ of_run kind.Reused reused ∷ []) ≡ false
of_none None None None a b = refl
of_none None None (Some run) a b = absurd cc
of_none None (Some run) reused a b = absurd cc
of_none (Some out) None None a b = refl
of_none (Some out) None (Some run) a b = absurd cc
of_none (Some out) (Some run) reused a b = absurd cc

told_promise : (past : List Event) (bounds : AllowedBounds) (r : Frames) (fs : List (Option Finding)) → IsMapTold bounds (stage_of past) r fs
    → (list_any is_reuse fs ≡ false) ↔ IsKeptNext past r
told_promise past bounds r fs h =
    let to = r.lo + r.len in
    let overlap = λ (f : ℕ). since_of kind.Overlap (stage_of past f) in
    let reused = λ (f : ℕ). since_of kind.Reused (stage_of past f) in (
      λ none f in_range.
          let both = none_of h.outside h.overlap h.reused (sym (ap (list_any is_reuse) h.are) ∙ none) in
          let parts = and_parts (nat_le r.lo f) (nat_lt f to) in_range in
          let from : r.lo ≤ f = leb-true r.lo f parts.0 in
          let under : f < to = ltb-true f to parts.1 in
          kept_from_given (event.Map r) past f (given_is past f (neither (stage_of past f)
          (found_none overlap r.lo to h.overlap h.is_overlap both.0 f from under)
          (found_none reused r.lo to h.reused h.is_reused both.1 f from under))),
      λ kept.
          let free : (f : ℕ) → r.lo ≤ f → f < to → stage_of past f ≡ stage.Free = λ f from under.
          free_is past f (given_from_kept (event.Map r) past f (kept f (and_from (nat_le r.lo f) (nat_lt f to) (le-leb r.lo f from) (lt-ltb f to under)))) in
          ap (list_any is_reuse) h.are ∙ of_none h.outside h.overlap h.reused
          (not_found overlap r.lo to h.overlap h.is_overlap (λ f from under. ap (since_of kind.Overlap) (free f from under)))
          (not_found reused r.lo to h.reused h.is_reused (λ f from under. ap (since_of kind.Reused) (free f from under))),
    )

pub breaks_told : (past : List Event) (bounds : AllowedBounds) (flights : ℕ → Option OpenFlush) (e : Event) (fs : List (Option Finding))
    → AreFindings bounds (stage_of past) flights e fs → TellsBreaks past e fs
breaks_told past bounds flights (event.Map r) fs h = told_promise past bounds r fs h
breaks_told past bounds flights (event.Unmap r) fs h = tt
breaks_told past bounds flights (event.Use r) fs h = tt
breaks_told past bounds flights (event.Begin number range) fs h = tt
breaks_told past bounds flights (event.End number ok) fs h = tt
breaks_told past bounds flights (event.Flush range) fs h = tt
breaks_told past bounds flights (event.Other what) fs h = tt
