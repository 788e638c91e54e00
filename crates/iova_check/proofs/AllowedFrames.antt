-- The frames that may be mapped, kept as mapped ones.
use Rattle.std.proofs.Common.{ℕ, ◌≡◌, ◌∙◌, ◌+◌, ◌-◌, ◌^◌, ◌<◌, ◌≤◌, inl, inr, Bool, true, false, [], ◌∷◌, ◌++◌, Option, Some, None, refl, sym, ap, subst, arith}
use Rattle.std.specs.Prelude.{nat_lt, ◌||◌, if◌then◌else◌}
use Rattle.std.specs.List.{list_any}
use Rattle.std.proofs.lemmas.Bool.{cond-true, cond-false, cases_Bool, cases_lt, lt-ltb, false_from_ne_true, ltb-true}
use Rattle.std.proofs.lemmas.List.Folds.{list_any-append}
use Rattle.iova_range.specs.Frames.{Frames, covers}
use Rattle.iova_check.specs.declared.stage.Stage.{Stage}
use Rattle.iova_check.specs.declared.stage.Stage.TheVariants as stage
use Rattle.iova_check.specs.declared.stage.Change.TheVariants as change
use Rattle.iova_check.specs.declared.finding.Kind.TheVariants as kind
use Rattle.iova_check.specs.declared.finding.Run.{Run}
use Rattle.iova_check.specs.History.{with_change}
use Rattle.iova_check.specs.AllowedBounds.{AllowedBounds}
use Rattle.iova_check.specs.Findings.{since_of, told_outside, IsFound}
use Rattle.iova_check.specs.Allowing.{with_window}

abbrev pick : Bool → Option (Option ℕ)
pick b = if b then Some None else None

below_is : (a b : Bool) → a ≡ true → pick ((a || b) || false) ≡ Some None
below_is true b h = refl
below_is false b h = absurd cc

above_is : (a b : Bool) → b ≡ true → pick ((a || b) || false) ≡ Some None
above_is true true h = refl
above_is false true h = refl
above_is true false h = absurd cc
above_is false false h = absurd cc

inside_is : (a b : Bool) → a ≡ false → b ≡ false → pick ((a || b) || false) ≡ None
inside_is false false g h = refl
inside_is true b g h = absurd cc
inside_is false true g h = absurd cc

not_lt : (a b : ℕ) → b ≤ a → nat_lt a b ≡ false
not_lt a b le = false_from_ne_true (nat_lt a b) (λ is. let lt : a < b = ltb-true a b is in absurd (omega arith))

abbrev between : ℕ → ℕ → AllowedBounds
between first last = record { first = first; last = last; windows = [] }

outside_below : (f first last : ℕ) → f < first → told_outside (between first last) f ≡ Some None
outside_below f first last lt = below_is (nat_lt f first) (nat_lt last f) (lt-ltb f first lt)

outside_above : (f first last : ℕ) → last < f → told_outside (between first last) f ≡ Some None
outside_above f first last lt = above_is (nat_lt f first) (nat_lt last f) (lt-ltb last f lt)

not_outside : (f first last : ℕ) → first ≤ f → f ≤ last → told_outside (between first last) f ≡ None
not_outside f first last from within = inside_is (nat_lt f first) (nat_lt last f) (not_lt f first from) (not_lt last f within)

-- all frames are free, and the first is above the last
pub nothing_allowed : (at : ℕ → Stage) (first last : ℕ) → ((f : ℕ) → at f ≡ stage.Free) → last < first
    → (f : ℕ) → since_of kind.Unmapped (at f) ≡ told_outside (between first last) f
nothing_allowed at first last free lt f = ap (since_of kind.Unmapped) (free f) ∙ elim (cases_lt f first) [
  | inl below ↦ sym (outside_below f first last below)
  | inr above ↦ sym (outside_above f first last (omega arith))
]

-- the frames from the first on and below `to` have been mapped
pub within_allowed : (was at : ℕ → Stage) (first last to : ℕ) → ((f : ℕ) → was f ≡ stage.Free)
    → ((f : ℕ) → first ≤ f → f < to → at f ≡ with_change (change.Mapped 0) (was f))
    → ((f : ℕ) → f < first → at f ≡ was f) → ((f : ℕ) → to ≤ f → at f ≡ was f)
    → ((f : ℕ) → f < 2 ^ 64 - 1 → f ≤ last → f < to) → to ≤ last + 1
    → (f : ℕ) → f < 2 ^ 64 - 1 → since_of kind.Unmapped (at f) ≡ told_outside (between first last) f
within_allowed was at first last to free inside below above fits least f top = elim (cases_lt f first) [
  | inl under ↦ ap (since_of kind.Unmapped) (below f under ∙ free f) ∙ sym (outside_below f first last under)
  | inr from ↦ elim (cases_lt last f) [
    | inl over ↦ ap (since_of kind.Unmapped) (above f (omega arith) ∙ free f) ∙ sym (outside_above f first last over)
    | inr within ↦ ap (since_of kind.Unmapped) (inside f from (fits f top within)) ∙ sym (not_outside f first last from within)
  ]
]

-- a window more

unmapped_told : (s : Stage) → since_of kind.Unmapped (with_change (change.Unmapped 0) s) ≡ Some None
unmapped_told stage.Free = refl
unmapped_told (stage.Mapped since) = refl
unmapped_told (stage.Stale since) = refl

one_of : (o s : Bool) → pick (o || (s || (true || false))) ≡ Some None
one_of true s = refl
one_of false true = refl
one_of false false = refl

none_of : (o s : Bool) → pick (o || (s || (false || false))) ≡ pick (o || s)
none_of true s = refl
none_of false true = refl
none_of false false = refl

pub window_allowed : (b : AllowedBounds) (w : Frames) (f : ℕ) (was at : Stage) → at ≡ (if covers f w then with_change (change.Unmapped 0) was else was)
    → since_of kind.Unmapped was ≡ told_outside b f → since_of kind.Unmapped at ≡ told_outside (with_window b w) f
window_allowed b w f was at is h =
    let o = nat_lt f b.first || nat_lt b.last f in
    let s = list_any (covers f) b.windows in
    let all : list_any (covers f) (b.windows ++ w ∷ []) ≡ (s || (covers f w || false)) = list_any-append (covers f) b.windows (w ∷ []) in
    let whole : told_outside (with_window b w) f ≡ pick (o || (s || (covers f w || false))) = ap (λ (x : Bool). pick (o || x)) all in
    elim (cases_Bool (covers f w)) [
      | inl so ↦
          let now : at ≡ with_change (change.Unmapped 0) was = is ∙ cond-true (covers f w) (with_change (change.Unmapped 0) was) was so in
          ap (since_of kind.Unmapped) now ∙ (unmapped_told was
          ∙ sym (whole ∙ (ap (λ (x : Bool). pick (o || (s || (x || false)))) so ∙ one_of o s)))
      | inr not ↦
          let now : at ≡ was = is ∙ cond-false (covers f w) (with_change (change.Unmapped 0) was) was not in
          ap (since_of kind.Unmapped) now ∙ (h
          ∙ sym (whole ∙ (ap (λ (x : Bool). pick (o || (s || (x || false)))) not ∙ none_of o s)))
    ]

-- the first finding of frames whose findings are equal
pub found_alike : (tells other : ℕ → Option (Option ℕ)) (lo to : ℕ) (found : Option Run) → ((f : ℕ) → f < to → tells f ≡ other f)
    → IsFound tells lo to found → IsFound other lo to found
found_alike tells other lo to None same h = λ f from under. sym (same f under) ∙ h f from under
found_alike tells other lo to (Some run) same h =
    let within : run.lo + run.len ≤ to = h.within in
    let some : 1 ≤ run.len = h.some in
    record {
      from = h.from;
      some = h.some;
      within = h.within;
      lowest = λ f from under. sym (same f (omega arith)) ∙ h.lowest f from under;
      same = λ f from under. sym (same f (omega arith)) ∙ h.same f from under;
      longest = λ under is. h.longest under (same (run.lo + run.len) under ∙ is);
    }

-- what holds from a frame to another holds from and to the same ones
pub moved : (P : ℕ → ℕ → Type 0) (lo to at end : ℕ) → lo ≡ at → to ≡ end → P lo to → P at end
moved P lo to at end from until h = let Q : ℕ → Type 0 = λ x. P x end in subst Q from (subst (P lo) until h)
