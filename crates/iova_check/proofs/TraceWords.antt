-- The last words of a line, cut off at its blanks.
use Rattle.std.proofs.Common.{ℕ, zero, suc, ◌≡◌, ◌∙◌, ◌+◌, ◌-◌, ◌<◌, ◌≤◌, ◌==◌, inl, inr, true, false, List, [], ◌∷◌, ◌++◌, length, take, drop, get_or, refl, sym, ap, arith, append_assoc, length-append, length-drop, length-take, Option}
use Rattle.std.specs.Prelude.{nat_lt, not, Bool, if◌then◌else◌}
use Rattle.std.specs.List.{list_all}
use Rattle.std.proofs.Math.Seq.{drop-append_seam}
use Rattle.std.proofs.lemmas.Bool.{and_from, cond-true, cond-false, cases_Bool, eqb-true, false_from_ne_true, ltb-true}
use Rattle.std.proofs.lemmas.List.{take_more, get_or-drop, get_or-take}
use Rattle.iova_text.proofs.Cuts.{cut_at}
use Rattle.iova_check.specs.declared.event.Event.TheVariants as event
use Rattle.iova_check.specs.declared.event.OtherLine.TheVariants as other
use Rattle.iova_text.specs.Reading.{stops, is_not_space}
use Rattle.iova_check.specs.Trace.{word_at_front, from_blank, spaced_words, last_seven, said_by, line_said, event_said}

-- the word at the front of a line, and what stands from the first blank on

pub front_is_word : (bytes : List ℕ) → list_all is_not_space (word_at_front bytes) ≡ true
front_is_word [] = refl
front_is_word (b ∷ bytes) = elim (cases_Bool (b == 32)) [
  | inl so ↦ ap (list_all is_not_space) (cond-true (b == 32) [] (b ∷ word_at_front bytes) so)
  | inr other ↦
      let byte : is_not_space b ≡ true = ap not other in
      ap (list_all is_not_space) (cond-false (b == 32) [] (b ∷ word_at_front bytes) other)
      ∙ and_from (is_not_space b) (list_all is_not_space (word_at_front bytes)) byte (front_is_word bytes)
]

pub front_stops : (bytes : List ℕ) → stops is_not_space (from_blank bytes) ≡ true
front_stops [] = refl
front_stops (b ∷ bytes) = elim (cases_Bool (b == 32)) [
  | inl so ↦
      let byte : not (is_not_space b) ≡ true = ap (λ (x : Bool). not (not x)) so in
      ap (stops is_not_space) (cond-true (b == 32) (b ∷ bytes) (from_blank bytes) so) ∙ byte
  | inr other ↦ ap (stops is_not_space) (cond-false (b == 32) (b ∷ bytes) (from_blank bytes) other) ∙ front_stops bytes
]

pub front_and_rest : (bytes : List ℕ) → bytes ≡ word_at_front bytes ++ from_blank bytes
front_and_rest [] = refl
front_and_rest (b ∷ bytes) = elim (cases_Bool (b == 32)) [
  | inl so ↦
      sym (ap (λ (x : List ℕ). x ++ from_blank (b ∷ bytes)) (cond-true (b == 32) [] (b ∷ word_at_front bytes) so)
      ∙ cond-true (b == 32) (b ∷ bytes) (from_blank bytes) so)
  | inr other ↦
      ap (λ (x : List ℕ). b ∷ x) (front_and_rest bytes)
      ∙ sym (ap (λ (x : List ℕ). x ++ from_blank (b ∷ bytes)) (cond-false (b == 32) [] (b ∷ word_at_front bytes) other)
      ∙ ap (λ (x : List ℕ). (b ∷ word_at_front bytes) ++ x) (cond-false (b == 32) (b ∷ bytes) (from_blank bytes) other))
]

-- no byte of them is a blank
abbrev IsOneWord : List ℕ → Type 0
IsOneWord w = (k : ℕ) → k < length w → (get_or w k 0 == 32) ≡ false

IsOneWord-tail : (b : ℕ) (w : List ℕ) → IsOneWord (b ∷ w) → IsOneWord w
IsOneWord-tail b w one k lt = one (suc k) (omega arith)

IsOneWord-head : (b : ℕ) (w : List ℕ) → IsOneWord (b ∷ w) → (b == 32) ≡ false
IsOneWord-head b w one = one zero (omega arith)

front_all : (w : List ℕ) → IsOneWord w → word_at_front w ≡ w
front_all [] one = refl
front_all (b ∷ w) one =
    cond-false (b == 32) [] (b ∷ word_at_front w) (IsOneWord-head b w one) ∙ ap (λ (x : List ℕ). b ∷ x) (front_all w (IsOneWord-tail b w one))

spaced_none : (w : List ℕ) → IsOneWord w → spaced_words w ≡ []
spaced_none [] one = refl
spaced_none (b ∷ w) one =
    cond-false (b == 32) (word_at_front w ∷ spaced_words w) (spaced_words w) (IsOneWord-head b w one) ∙ spaced_none w (IsOneWord-tail b w one)

front_more : (a w : List ℕ) → word_at_front (a ++ 32 ∷ w) ≡ word_at_front a
front_more [] w = refl
front_more (b ∷ a) w = ap (λ (x : List ℕ). if b == 32 then [] else b ∷ x) (front_more a w)

spaced_more : (a w : List ℕ) → IsOneWord w → spaced_words (a ++ 32 ∷ w) ≡ spaced_words a ++ w ∷ []
spaced_more [] w one = ap (λ (x : List ℕ). x ∷ spaced_words w) (front_all w one) ∙ ap (λ (x : List (List ℕ)). w ∷ x) (spaced_none w one)
spaced_more (b ∷ a) w one = elim (cases_Bool (b == 32)) [
  | inl so ↦
      let front = word_at_front (a ++ 32 ∷ w) in
      let rest = spaced_words (a ++ 32 ∷ w) in
      cond-true (b == 32) (front ∷ rest) rest so
      ∙ (ap (λ (x : List ℕ). x ∷ rest) (front_more a w) ∙ (ap (λ (x : List (List ℕ)). word_at_front a ∷ x) (spaced_more a w one)
      ∙ ap (λ (x : List (List ℕ)). x ++ w ∷ []) (sym (cond-true (b == 32) (word_at_front a ∷ spaced_words a) (spaced_words a) so))))
  | inr not ↦
      let front = word_at_front (a ++ 32 ∷ w) in
      let rest = spaced_words (a ++ 32 ∷ w) in
      cond-false (b == 32) (front ∷ rest) rest not
      ∙ (spaced_more a w one ∙ ap (λ (x : List (List ℕ)). x ++ w ∷ []) (sym (cond-false (b == 32) (word_at_front a ∷ spaced_words a) (spaced_words a) not)))
]

-- at the last blank of a line
pub cut_at_blank : (line : List ℕ) (n : ℕ) → n < length line → (get_or line n 0 == 32) ≡ true
    → ((k : ℕ) → n + 1 ≤ k → k < length line → (get_or line k 0 == 32) ≡ true → ⊥)
    → spaced_words line ≡ spaced_words (take n line) ++ take (length line - (n + 1)) (drop (n + 1) line) ∷ []
cut_at_blank line n lt is none =
    let left = length line - (n + 1) in
    let w = take left (drop (n + 1) line) in
    let byte : get_or line n 0 ≡ 32 = eqb-true (get_or line n 0) 32 is in
    let cut : line ≡ take n line ++ 32 ∷ w =
    cut_at line (n + 1) ∙ (ap (λ (x : List ℕ). x ++ w) (take_more line n 0 lt ∙ ap (λ (b : ℕ). take n line ++ b ∷ []) byte)
    ∙ append_assoc (take n line) (32 ∷ []) w) in
    let one : IsOneWord w = λ k under.
    let short : k < left = omega (arith, length-take left (drop (n + 1) line), length-drop (n + 1) line) in
    let same : get_or w k 0 ≡ get_or line (n + 1 + k) 0 = get_or-take left (drop (n + 1) line) k 0 short ∙ get_or-drop (n + 1) line k 0 in
    ap (λ (b : ℕ). b == 32) same ∙ false_from_ne_true (get_or line (n + 1 + k) 0 == 32) (none (n + 1 + k) (omega arith) (omega arith)) in
    ap spaced_words cut ∙ spaced_more (take n line) w one

pub no_blank : (line : List ℕ) → ((k : ℕ) → 0 ≤ k → k < length line → (get_or line k 0 == 32) ≡ true → ⊥) → spaced_words line ≡ []
no_blank line none = spaced_none line (λ k lt. false_from_ne_true (get_or line k 0 == 32) (none k (omega arith) lt))

-- The last seven of some words

pub seven_last : (before : List (List ℕ)) (n p a b c d e : List ℕ)
    → last_seven (before ++ n ∷ p ∷ a ∷ b ∷ c ∷ d ∷ e ∷ []) ≡ n ∷ p ∷ a ∷ b ∷ c ∷ d ∷ e ∷ []
seven_last before n p a b c d e =
    let ws = n ∷ p ∷ a ∷ b ∷ c ∷ d ∷ e ∷ [] in
    let len : length (before ++ ws) - 7 ≡ length before = omega (arith, length-append before ws) in
    ap (λ (k : ℕ). drop k (before ++ ws)) len ∙ drop-append_seam before ws

few : (domain : Option ℕ) (ws : List (List ℕ)) → length ws < 7 → said_by domain ws ≡ event.Other other.Plain
few domain [] lt = refl
few domain (a ∷ []) lt = refl
few domain (a ∷ b ∷ []) lt = refl
few domain (a ∷ b ∷ c ∷ []) lt = refl
few domain (a ∷ b ∷ c ∷ d ∷ []) lt = refl
few domain (a ∷ b ∷ c ∷ d ∷ e ∷ []) lt = refl
few domain (a ∷ b ∷ c ∷ d ∷ e ∷ f ∷ []) lt = refl
few domain (a ∷ b ∷ c ∷ d ∷ e ∷ f ∷ g ∷ ws) lt = absurd (omega arith)

pub too_few : (domain : Option ℕ) (ws : List (List ℕ)) → length ws < 7 → said_by domain (last_seven ws) ≡ event.Other other.Plain
too_few domain ws lt =
    let none : length ws - 7 ≡ 0 = omega arith in
    ap (λ (k : ℕ). said_by domain (drop k ws)) none ∙ few domain ws lt

-- nothing is read of a long line
pub long_says : (domain : Option ℕ) (line : List ℕ) → 1024 ≤ length line → event_said domain line ≡ event.Other other.TooLong
long_says domain line long =
    cond-false (nat_lt (length line) 1024) (line_said domain line) (event.Other other.TooLong)
    (false_from_ne_true (nat_lt (length line) 1024) (λ is. let lt : length line < 1024 = ltb-true (length line) 1024 is in absurd (omega arith)))
