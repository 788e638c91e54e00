-- The flush of a number that is in flight, in lines: the last line of that number begins it.
use Rattle.std.proofs.Common.{ℕ, ◌≡◌, ◌∙◌, ◌<◌, inl, inr, Bool, true, false, List, [], ◌∷◌, Option, Some, None, refl, sym, subst}
use Rattle.std.specs.Prelude.{◌==◌, ◌&&◌}
use Rattle.std.proofs.lemmas.Bool.{cond-true, cond-false, cases_Bool, both_ways, and_left}
use Rattle.iova_check.specs.declared.event.Event.{Event}
use Rattle.iova_check.specs.declared.event.Event.TheVariants as event
use Rattle.iova_check.specs.declared.stage.OpenFlush.{OpenFlush}
use Rattle.iova_check.specs.History.{next_line, has, flight_of}
use Rattle.iova_check.specs.Promise.{is_line, IsLine, NoneAfter, begins, is_of}
use Rattle.iova_check.proofs.Lines.{line_new, line_old, line_bound, line_cases, line_more, after_more, after_newest}

-- the last line of this number begins the flush
pub record IsFlight (past : List Event) (number : ℕ) (flight : OpenFlush) : Type 0 where
  pub starts : (f : ℕ) → is_line (begins number f) past flight.line ≡ has f flight.range
  pub is : IsLine (is_of number) past flight.line
  pub last : NoneAfter (is_of number) past flight.line

-- after each line that begins a flush of this number there is one of the number
abbrev pub IsNoFlight : List Event → ℕ → Type 0
IsNoFlight past number = (f n : ℕ) → IsLine (begins number f) past n → (m : ℕ) × (n < m) × IsLine (is_of number) past m

abbrev pub IsFlightOf : List Event → ℕ → Option OpenFlush → Type 0
IsFlightOf past number None = IsNoFlight past number
IsFlightOf past number (Some flight) = IsFlight past number flight

-- a line that is not of the number
kept : (e : Event) (past : List Event) (number : ℕ) (was : Option OpenFlush) → is_of number e ≡ false → ((f : ℕ) → begins number f e ≡ false)
    → IsFlightOf past number was → IsFlightOf (e ∷ past) number was
kept e past number None other none h = λ f n is. elim (line_cases (begins number f) e past n is) [
  | inl new ↦ absurd (both_ways (begins number f e) (none f) new.1)
  | inr old ↦ let later = h f n old.1 in (later.0, later.1, line_more (is_of number) e past later.0 later.2)
]
kept e past number (Some flight) other none h =
    let below : flight.line < next_line past = line_bound (is_of number) past flight.line h.is in
    record {
      starts = λ f. line_old (begins number f) e past flight.line below ∙ h.starts f;
      is = line_more (is_of number) e past flight.line h.is;
      last = after_more (is_of number) e past flight.line other h.last;
    }

-- a line that ends it, or that begins another
gone : (e : Event) (past : List Event) (number : ℕ) → is_of number e ≡ true → ((f : ℕ) → begins number f e ≡ false) → IsNoFlight (e ∷ past) number
gone e past number of none f n is = elim (line_cases (begins number f) e past n is) [
  | inl new ↦ absurd (both_ways (begins number f e) (none f) new.1)
  | inr old ↦ (next_line past, old.0, line_new (is_of number) e past ∙ of)
]

begun_is : (a : Bool) (b : Bool) → a ≡ true → (a && b) ≡ b
begun_is true b h = refl
begun_is false b h = absurd cc

pub flight_is : (past : List Event) (number : ℕ) → IsFlightOf past number (flight_of past number)
flight_is [] number = λ f n is. absurd cc
flight_is (event.Map r ∷ past) number = kept (event.Map r) past number (flight_of past number) refl (λ f. refl) (flight_is past number)
flight_is (event.Unmap r ∷ past) number = kept (event.Unmap r) past number (flight_of past number) refl (λ f. refl) (flight_is past number)
flight_is (event.Use r ∷ past) number = kept (event.Use r) past number (flight_of past number) refl (λ f. refl) (flight_is past number)
flight_is (event.Flush range ∷ past) number = kept (event.Flush range) past number (flight_of past number) refl (λ f. refl) (flight_is past number)
flight_is (event.Other what ∷ past) number = kept (event.Other what) past number (flight_of past number) refl (λ f. refl) (flight_is past number)
flight_is (event.Begin begun range ∷ past) number =
    let e = event.Begin begun range in
    let now : OpenFlush = record { line = next_line past; range = range } in
    let P : Option OpenFlush → Type 0 = IsFlightOf (e ∷ past) number in
    elim (cases_Bool (begun == number)) [
      | inl same ↦ subst P (sym (cond-true (begun == number) (Some now) (flight_of past number) same)) (record {
        starts = λ f. line_new (begins number f) e past ∙ begun_is (begun == number) (has f range) same;
        is = line_new (is_of number) e past ∙ same;
        last = after_newest (is_of number) e past;
      })
      | inr other ↦ subst P (sym (cond-false (begun == number) (Some now) (flight_of past number) other))
          (kept e past number (flight_of past number) other (λ f. and_left (begun == number) (has f range) other) (flight_is past number))
    ]
flight_is (event.End ended ok ∷ past) number =
    let e = event.End ended ok in
    let P : Option OpenFlush → Type 0 = IsFlightOf (e ∷ past) number in
    elim (cases_Bool (ended == number)) [
      | inl same ↦ subst P (sym (cond-true (ended == number) None (flight_of past number) same)) (gone e past number same (λ f. refl))
      | inr other ↦ subst P (sym (cond-false (ended == number) None (flight_of past number) other)) (kept e past number (flight_of past number) other (λ f. refl) (flight_is past number))
    ]
