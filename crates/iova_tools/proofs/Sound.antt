-- A log without findings is sound.
use Rattle.std.proofs.Common.{ℕ, zero, suc, ◌≡◌, ◌∙◌, ◌+◌, ◌<◌, ◌≤◌, Bool, true, false, inl, inr, List, [], ◌∷◌, Option, Some, None, Result, Ok, Err, refl, sym, ap, subst, arith}
use Rattle.std.specs.Prelude.{◌≢◌, ◌⊎◌, ◌==◌, ◌||◌, if◌then◌else◌, nat_lt, nat_le, OnOk, ⊤}
use Rattle.std.specs.Borrow.{Bor}
use Rattle.std.specs.List.{list_any}
use Rattle.std.proofs.lemmas.Bool.{and_parts, both_ways, cases_eq, cond-false, cond-true, eq-eqb, leb-true, lt-ltb, ltb-true, ne_eqb}
use Rattle.iova_range.specs.Frames.{Frames}
use Rattle.iova_check.specs.declared.checker.Checker.{Checker}
use Rattle.iova_check.specs.declared.event.Event.{Event}
use Rattle.iova_check.specs.declared.event.Event.TheVariants as event
use Rattle.iova_check.specs.declared.fault.CheckFault.{CheckFault}
use Rattle.iova_check.specs.declared.fault.CheckFault.TheVariants as check
use Rattle.iova_check.specs.declared.finding.Finding.{Finding}
use Rattle.iova_check.specs.declared.finding.Kind.TheVariants as kind
use Rattle.iova_check.specs.declared.finding.Run.{Run}
use Rattle.iova_check.specs.declared.source.Source.{Source}
use Rattle.iova_check.specs.declared.stage.OpenFlush.{OpenFlush}
use Rattle.iova_check.specs.declared.stage.Stage.TheVariants as stage
use Rattle.iova_check.specs.AllowedBounds.{AllowedBounds}
use Rattle.iova_check.specs.Counting.{how_many}
use Rattle.iova_check.specs.Findings.{AreFindings, IsFound, TellsBreaks, is_reuse, of_run, told_outside}
use Rattle.iova_check.specs.History.{flight_of, next_line, stage_of}
use Rattle.iova_check.specs.Output.{IsTold}
use Rattle.iova_check.specs.Promise.{IsKeptAt, IsLine, PromiseIsTold, is_line, lines_before, maps}
use Rattle.iova_check.specs.Runs.{AreRead, Checks}
use Rattle.iova_command.specs.declared.check_plan.CheckPlan.{CheckPlan}
use Rattle.iova_tools.specs.Sound.{ChecksSound, IsAskedBy, ReadsSound}
use Rattle.iova_tools.specs.Verdicts.{EndsCheck, ends_with, fault_of_verdict, has_gap, verdict_of}
use Rattle.iova_tools.specs.declared.verdict.Verdict.TheVariants as verdict
use Rattle.iova_tools.specs.declared.fault.Fault.{Fault}

-- The newest line

-- where there is no finding there is none of reuse
no_reuse : (fs : List (Option Finding)) → how_many fs ≡ 0 → list_any is_reuse fs ≡ false
no_reuse [] none = refl
no_reuse (None ∷ fs) none = no_reuse fs (omega arith)
no_reuse (Some f ∷ fs) none = absurd (omega arith)

-- and the first one is none
first_none : (o : Option Run) (fs : List (Option Finding)) → how_many (of_run kind.Outside o ∷ fs) ≡ 0 → o ≡ None
first_none None fs none = refl
first_none (Some run) fs none = absurd (omega arith)

within_range : (tells : ℕ → Option (Option ℕ)) (lo to : ℕ) (found : Option Run) → IsFound tells lo to found → found ≡ None
    → (f : ℕ) → lo ≤ f → f < to → tells f ≡ None
within_range tells lo to None h is f from under = h f from under
within_range tells lo to (Some run) h is f from under = absurd cc

new_line : (bounds : AllowedBounds) (past : List Event) (flights : ℕ → Option OpenFlush) (e : Event) (fs : List (Option Finding)) (f : ℕ)
    → AreFindings bounds (stage_of past) flights e fs → TellsBreaks past e fs → how_many fs ≡ 0 → maps f e ≡ true
    → IsKeptAt (e ∷ past) f (next_line past) × (told_outside bounds f ≡ None)
new_line bounds past flights (event.Map r) fs f h breaks none in_range =
    let parts = and_parts (nat_le r.lo f) (nat_lt f (r.lo + r.len)) in_range in
    let first = first_none h.outside (of_run kind.Overlap h.overlap ∷ of_run kind.Reused h.reused ∷ []) (sym (ap how_many h.are) ∙ none) in (
      breaks.0 (no_reuse fs none) f in_range,
      within_range (told_outside bounds) r.lo (r.lo + r.len) h.outside h.is_outside first f (leb-true r.lo f parts.0) (ltb-true f (r.lo + r.len) parts.1),
    )
new_line bounds past flights (event.Unmap r) fs f h breaks none in_range = absurd cc
new_line bounds past flights (event.Use r) fs f h breaks none in_range = absurd cc
new_line bounds past flights (event.Begin number range) fs f h breaks none in_range = absurd cc
new_line bounds past flights (event.End number ok) fs f h breaks none in_range = absurd cc
new_line bounds past flights (event.Flush range) fs f h breaks none in_range = absurd cc
new_line bounds past flights (event.Other what) fs f h breaks none in_range = absurd cc

-- Those before it

line_bound : (p : Event → Bool) (past : List Event) (n : ℕ) → IsLine p past n → n < next_line past
line_bound p [] n h = absurd cc
line_bound p (e ∷ past) n h = elim (cases_eq n (next_line past)) [
  | inl same ↦ omega arith
  | inr other ↦
      let old : is_line p (e ∷ past) n ≡ is_line p past n = cond-false (n == next_line past) (p e) (is_line p past n) (ne_eqb n (next_line past) other) in
      let below : n < next_line past = line_bound p past n (sym old ∙ h) in
      omega arith
]

-- a line is the newest one, or one before it
line_cases : (p : Event → Bool) (e : Event) (past : List Event) (n : ℕ) → IsLine p (e ∷ past) n
    → ((n ≡ next_line past) × (p e ≡ true)) ⊎ ((n < next_line past) × IsLine p past n)
line_cases p e past n h = elim (cases_eq n (next_line past)) [
  | inl same ↦ inl (same, sym (cond-true (n == next_line past) (p e) (is_line p past n) (eq-eqb n (next_line past) same)) ∙ h)
  | inr other ↦
      let old : is_line p (e ∷ past) n ≡ is_line p past n = cond-false (n == next_line past) (p e) (is_line p past n) (ne_eqb n (next_line past) other) in
      let is : IsLine p past n = sym old ∙ h in
      inr (line_bound p past n is, is)
]

-- the promise at a line is that of the lines up to it
kept_later : PromiseIsTold → (e : Event) (past : List Event) (f n : ℕ) → n < next_line past → IsLine (maps f) past n → IsLine (maps f) (e ∷ past) n → IsKeptAt past f n
    → IsKeptAt (e ∷ past) f n
kept_later law e past f n below is later kept =
    let other : n ≡ next_line past → ⊥ = λ same. absurd (omega arith) in
    let there : lines_before (e ∷ past) n ≡ lines_before past n = cond-false (n == next_line past) past (lines_before past n) (ne_eqb n (next_line past) other) in
    let free : stage_of (lines_before past n) f ≡ stage.Free = (law past f n is).0 kept in
    (law (e ∷ past) f n later).1 (ap (λ x. stage_of x f) there ∙ free)

sound_lines : PromiseIsTold → (bounds : AllowedBounds) (past : List Event) (text : List ℕ) (found : ℕ) → IsTold bounds past text found → found ≡ 0
    → (f n : ℕ) → IsLine (maps f) past n → IsKeptAt past f n × (told_outside bounds f ≡ None)
sound_lines law bounds [] text found told none f n is = absurd cc
sound_lines law bounds (e ∷ past) text found told none f n is =
    let next = told.3 in
    let count : found ≡ told.1 + how_many next.findings = next.count in
    let before : told.1 ≡ 0 = omega arith in
    let here : how_many next.findings ≡ 0 = omega arith in
    elim (line_cases (maps f) e past n is) [
      | inl new ↦
          let P : ℕ → Type 0 = λ x. IsKeptAt (e ∷ past) f x in
          let both = new_line bounds past (flight_of past) e next.findings f next.are next.breaks here new.1 in
          (subst P (sym new.0) both.0, both.1)
      | inr old ↦
          let both = sound_lines law bounds past told.0 told.1 told.2 before f n old.1 in
          (kept_later law e past f n old.0 old.1 is both.0, both.1)
    ]

-- The end of a check

sound_flags : (found gap : Bool) → Ok tt ≡ ends_with (fault_of_verdict (if found then verdict.Found else (if gap then verdict.Incomplete else verdict.Sound)))
    → (found ≡ false) × (gap ≡ false)
sound_flags true gap is = absurd cc
sound_flags false true is = absurd cc
sound_flags false false is = (refl, refl)

neither_flag : (a b : Bool) → (a || b) ≡ false → (a ≡ false) × (b ≡ false)
neither_flag true b is = absurd cc
neither_flag false true is = absurd cc
neither_flag false false is = (refl, refl)

none_below : (n : ℕ) → nat_lt 0 n ≡ false → n ≡ 0
none_below zero is = refl
none_below (suc n) is = absurd (both_ways (nat_lt 0 (suc n)) is (lt-ltb 0 (suc n) (omega arith)))

counts_of_sound : (findings mapped lost too_long : ℕ) → Ok tt ≡ ends_with (fault_of_verdict (verdict_of findings mapped lost too_long))
    → (findings ≡ 0) × (mapped ≢ 0) × (lost ≡ 0) × (too_long ≡ 0)
counts_of_sound findings mapped lost too_long is =
    let flags = sound_flags (nat_lt 0 findings) (has_gap mapped lost too_long) is in
    let gaps = neither_flag (mapped == 0) (nat_lt 0 lost || nat_lt 0 too_long) flags.1 in
    let rest = neither_flag (nat_lt 0 lost) (nat_lt 0 too_long) gaps.1 in (
      none_below findings flags.0,
      λ none. both_ways (mapped == 0) gaps.0 (eq-eqb mapped 0 none),
      none_below lost rest.0,
      none_below too_long rest.1,
    )

sound_end : PromiseIsTold → (source : Source) (input left output filled : Option (List ℕ)) (checked : Result Checker CheckFault) (told : Result Bool CheckFault)
    (ended : Result ⊤ Fault) (path : Bor (List ℕ)) → Checks source input left output filled checked → EndsCheck path checked told ended
    → OnOk ended (ReadsSound source input left)
sound_end law source input left output filled checked told (Err e) path checks ends = tt
sound_end law source input left output filled (Err fault) (Err other) (Ok u) path checks ends = absurd cc
sound_end law source input left output filled (Err fault) (Ok found) (Ok u) path checks ends = absurd cc
sound_end law source input left output filled (Ok c) (Err fault) (Ok u) path checks ends = absurd cc
sound_end law source input left output filled (Ok c) (Ok found) (Ok u) path checks ends =
    let done = checks.tells.0 in
    let known = done.checked in
    let counted = known.counted in
    let sound = counts_of_sound c.counts.findings c.counts.maps c.counts.lost c.counts.too_long ends in
    let lines = sound_lines law done.lines.bounds done.lines.past checks.written known.found known.told (sym counted.findings ∙ sound.0) in
    record {
      lines = done.lines;
      taken = checks.taken;
      takes = checks.takes;
      end = checks.tells.1;
      reads = subst (AreRead source.form checks.taken left) done.whole checks.reads;
      are = done.good;
      sound = record {
        kept = λ f n is. (lines f n is).0;
        within = λ f n is. (lines f n is).1;
        some = λ none. sound.1 (counted.maps ∙ none);
        none_lost = sym counted.lost ∙ sound.2;
        none_too_long = sym counted.too_long ∙ sound.3;
      };
    }

asked_by : (plan : CheckPlan) (windows : List Frames) (source : Source) (input left : Option (List ℕ)) (ended : Result ⊤ Fault) → IsAskedBy plan windows source
    → OnOk ended (ReadsSound source input left) → OnOk ended (ChecksSound plan windows input left)
asked_by plan windows source input left (Err e) asked reads = tt
asked_by plan windows source input left (Ok u) asked reads = record { source = source; asked = asked; reads = reads }

pub checks_sound : PromiseIsTold → (plan : CheckPlan) (windows : List Frames) (source : Source) (input left output filled : Option (List ℕ))
    (checked : Result Checker CheckFault) (told : Result Bool CheckFault) (ended : Result ⊤ Fault) (path : Bor (List ℕ)) → IsAskedBy plan windows source
    → Checks source input left output filled checked → EndsCheck path checked told ended → OnOk ended (ChecksSound plan windows input left)
checks_sound law plan windows source input left output filled checked told ended path asked checks ends =
    asked_by plan windows source input left ended asked (sound_end law source input left output filled checked told ended path checks ends)
