-- Lines of a log: the newest one, and those before it.
use Rattle.std.proofs.Common.{ℕ, ◌≡◌, ◌∙◌, ◌<◌, ◌≤◌, ◌⊎◌, inl, inr, Bool, true, false, List, [], ◌∷◌, refl, sym, arith}
use Rattle.std.specs.Prelude.{◌==◌}
use Rattle.std.proofs.lemmas.Bool.{cond-true, cond-false, eq-eqb, ne_eqb, cases_eq, both_ways, false_from_ne_true}
use Rattle.iova_check.specs.declared.event.Event.{Event}
use Rattle.iova_check.specs.History.{next_line}
use Rattle.iova_check.specs.Promise.{is_line, IsLine, NoneAfter, NoneBetween, flushes, IsFlush, TakesBack}

pub line_new : (p : Event → Bool) (e : Event) (past : List Event) → is_line p (e ∷ past) (next_line past) ≡ p e
line_new p e past = cond-true (next_line past == next_line past) (p e) (is_line p past (next_line past)) (eq-eqb (next_line past) (next_line past) refl)

pub line_old : (p : Event → Bool) (e : Event) (past : List Event) (n : ℕ) → n < next_line past → is_line p (e ∷ past) n ≡ is_line p past n
line_old p e past n lt = cond-false (n == next_line past) (p e) (is_line p past n) (ne_eqb n (next_line past) (λ q. absurd (omega arith)))

-- each line's number is below that of the next
pub line_bound : (p : Event → Bool) (past : List Event) (n : ℕ) → IsLine p past n → n < next_line past
line_bound p [] n h = absurd cc
line_bound p (e ∷ past) n h = elim (cases_eq n (next_line past)) [
  | inl same ↦ omega arith
  | inr other ↦
      let old : is_line p (e ∷ past) n ≡ is_line p past n = cond-false (n == next_line past) (p e) (is_line p past n) (ne_eqb n (next_line past) other) in
      let below : n < next_line past = line_bound p past n (sym old ∙ h) in
      omega arith
]

pub line_above : (p : Event → Bool) (past : List Event) (n : ℕ) → next_line past ≤ n → is_line p past n ≡ false
line_above p past n le = false_from_ne_true (is_line p past n) (λ h. let below : n < next_line past = line_bound p past n h in absurd (omega arith))

-- a line is the newest one, or one before it
pub line_cases : (p : Event → Bool) (e : Event) (past : List Event) (n : ℕ) → IsLine p (e ∷ past) n
    → ((n ≡ next_line past) × (p e ≡ true)) ⊎ ((n < next_line past) × IsLine p past n)
line_cases p e past n h = elim (cases_eq n (next_line past)) [
  | inl same ↦ inl (same, sym (cond-true (n == next_line past) (p e) (is_line p past n) (eq-eqb n (next_line past) same)) ∙ h)
  | inr other ↦
      let old : is_line p (e ∷ past) n ≡ is_line p past n = cond-false (n == next_line past) (p e) (is_line p past n) (ne_eqb n (next_line past) other) in
      let is : IsLine p past n = sym old ∙ h in
      inr (line_bound p past n is, is)
]

pub line_more : (p : Event → Bool) (e : Event) (past : List Event) (n : ℕ) → IsLine p past n → IsLine p (e ∷ past) n
line_more p e past n h = line_old p e past n (line_bound p past n h) ∙ h

-- No line passes both tests that no event passes.
pub line_apart : (p q : Event → Bool) → ((e : Event) → p e ≡ true → q e ≡ false) → (past : List Event) (n : ℕ) → IsLine p past n → is_line q past n ≡ false
line_apart p q apart [] n h = refl
line_apart p q apart (e ∷ past) n h = elim (line_cases p e past n h) [
  | inl new ↦ cond-true (n == next_line past) (q e) (is_line q past n) (eq-eqb n (next_line past) new.0) ∙ apart e new.1
  | inr old ↦ line_old q e past n old.0 ∙ line_apart p q apart past n old.1
]

-- What holds of the lines after a line, and between two

pub after_more : (p : Event → Bool) (e : Event) (past : List Event) (n : ℕ) → p e ≡ false → NoneAfter p past n → NoneAfter p (e ∷ past) n
after_more p e past n not h m lt = false_from_ne_true (is_line p (e ∷ past) m) (λ is. elim (line_cases p e past m is) [
  | inl new ↦ both_ways (p e) not new.1
  | inr old ↦ both_ways (is_line p past m) (h m lt) old.1
])

pub after_less : (p : Event → Bool) (e : Event) (past : List Event) (n : ℕ) → NoneAfter p (e ∷ past) n → NoneAfter p past n
after_less p e past n h m lt = false_from_ne_true (is_line p past m) (λ is. both_ways (is_line p (e ∷ past) m) (h m lt) (line_more p e past m is))

-- nothing is after the newest line
pub after_newest : (p : Event → Bool) (e : Event) (past : List Event) → NoneAfter p (e ∷ past) (next_line past)
after_newest p e past m lt = line_above p (e ∷ past) m (omega arith)

pub between_more : (p : Event → Bool) (e : Event) (past : List Event) (n to : ℕ) → to ≤ next_line past → NoneBetween p past n to → NoneBetween p (e ∷ past) n to
between_more p e past n to le h m lt below = line_old p e past m (omega arith) ∙ h m lt below

pub between_less : (p : Event → Bool) (e : Event) (past : List Event) (n to : ℕ) → to ≤ next_line past → NoneBetween p (e ∷ past) n to → NoneBetween p past n to
between_less p e past n to le h m lt below = sym (line_old p e past m (omega arith)) ∙ h m lt below

-- Flushes and unmaps among fewer and more lines

pub flush_bound : (past : List Event) (f begun ended : ℕ) → IsFlush past f begun ended → ended < next_line past
flush_bound past f begun ended (inl h) = line_bound _ past ended h.ends
flush_bound past f begun ended (inr h) = line_bound (flushes f) past ended h.line

pub flush_more : (e : Event) (past : List Event) (f begun ended : ℕ) → IsFlush past f begun ended → IsFlush (e ∷ past) f begun ended
flush_more e past f begun ended (inl h) =
    let below : ended < next_line past = line_bound _ past ended h.ends in
    inl (record {
      number = h.number;
      starts = line_more _ e past begun h.starts;
      ends = line_more _ e past ended h.ends;
      in_order = h.in_order;
      alone = between_more _ e past begun ended (omega arith) h.alone;
    })
flush_more e past f begun ended (inr h) = inr (record { line = line_more (flushes f) e past ended h.line; in_one_line = h.in_one_line })

pub flush_less : (e : Event) (past : List Event) (f begun ended : ℕ) → ended < next_line past → IsFlush (e ∷ past) f begun ended → IsFlush past f begun ended
flush_less e past f begun ended below (inl h) =
    let earlier : begun < ended = h.in_order in
    inl (record {
      number = h.number;
      starts = sym (line_old _ e past begun (omega arith)) ∙ h.starts;
      ends = sym (line_old _ e past ended below) ∙ h.ends;
      in_order = h.in_order;
      alone = between_less _ e past begun ended (omega arith) h.alone;
    })
flush_less e past f begun ended below (inr h) = inr (record { line = sym (line_old (flushes f) e past ended below) ∙ h.line; in_one_line = h.in_one_line })

pub takes_more : (e : Event) (past : List Event) (f n : ℕ) → TakesBack past f n → TakesBack (e ∷ past) f n
takes_more e past f n h =
    let below : n < next_line past = line_bound _ past n h.unmapped in
    record {
      mapped_at = h.mapped_at;
      mapped = line_more _ e past h.mapped_at h.mapped;
      before = h.before;
      kept = between_more _ e past h.mapped_at n (omega arith) h.kept;
      unmapped = line_more _ e past n h.unmapped;
    }

pub takes_less : (e : Event) (past : List Event) (f n : ℕ) → n < next_line past → TakesBack (e ∷ past) f n → TakesBack past f n
takes_less e past f n below h =
    let earlier : h.mapped_at < n = h.before in
    record {
      mapped_at = h.mapped_at;
      mapped = sym (line_old _ e past h.mapped_at (omega arith)) ∙ h.mapped;
      before = h.before;
      kept = between_less _ e past h.mapped_at n (omega arith) h.kept;
      unmapped = sym (line_old _ e past n below) ∙ h.unmapped;
    }
