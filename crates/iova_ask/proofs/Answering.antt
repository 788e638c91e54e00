-- Answers are made of lines.
use Rattle.std.proofs.Common.{ℕ, ◌≡◌, ◌+◌, ◌≤◌, ◌∙◌, List, [], ◌∷◌, ◌++◌, length, take, flat_map, refl, sym, ap, subst, arith, length-append}
use Rattle.std.proofs.lemmas.List.{append-nil, append_assoc}
use Rattle.std.proofs.lemmas.Grind.{flat_map-append}
use Rattle.iova_ask.specs.Answers.{AreWholeAnswers, AreOwed, HasLinesAfter, IsWholeAnswer, IsAnswered, LeavesOwed}
use Rattle.iova_ask.specs.Asking.{AreLines, IsLine, lines_text}
use Rattle.iova_ask.specs.declared.answers.Owed.{Owed}
use Rattle.iova_text.specs.Lines.{whole_line}
use Rattle.iova_ask.proofs.Lined.{all_append, length_push, lines_text-none, take_front, whole_push}

pub no_answers : AreWholeAnswers 0 []
no_answers = record { answers = []; lines = tt; each = tt; whole = refl; count = refl }

pub answers_append : (i j : ℕ) (ls ms : List (List ℕ)) → AreWholeAnswers i ls → AreWholeAnswers j ms → AreWholeAnswers (i + j) (ls ++ ms)
answers_append i j ls ms x y = record {
  answers = x.answers ++ y.answers;
  lines = all_append IsLine ls ms x.lines y.lines;
  each = all_append IsWholeAnswer x.answers y.answers x.each y.each;
  whole = ap (λ (t : List (List ℕ)). t ++ ms) x.whole ∙ (ap (λ (t : List (List ℕ)). flat_map (λ (a : List (List ℕ)). a) x.answers ++ t) y.whole
      ∙ sym (flat_map-append (λ (a : List (List ℕ)). a) x.answers y.answers));
  count = omega (arith, length-append x.answers y.answers, x.count, y.count);
}

-- nothing, and one line after others

pub leaves_all : (owed : Owed) → LeavesOwed owed [] owed
leaves_all owed more h = h

pub leaves_push : (owed mid left : Owed) (ls : List (List ℕ)) (l : List ℕ) → LeavesOwed owed ls mid → LeavesOwed mid (l ∷ []) left → LeavesOwed owed (ls ++ l ∷ []) left
leaves_push owed mid left ls l x y more h = subst (AreOwed owed) (sym (append_assoc ls (l ∷ []) more)) (x (l ∷ more) (y more h))

pub leaves_trans : (owed mid left : Owed) (ls ms : List (List ℕ)) → LeavesOwed owed ls mid → LeavesOwed mid ms left → LeavesOwed owed (ls ++ ms) left
leaves_trans owed mid left ls ms x y more h = subst (AreOwed owed) (sym (append_assoc ls ms more)) (x (ms ++ more) (y more h))

-- a line that goes on an answer
pub leaves_range : (owed left : Owed) (l : List ℕ) → IsLine l → owed.ranges ≡ left.ranges + 1 → owed.answers ≡ left.answers → LeavesOwed owed (l ∷ []) left
leaves_range owed left l is ranges answers more h = record {
  front = l ∷ h.front;
  rest = h.rest;
  whole = ap (λ (t : List (List ℕ)). l ∷ t) h.whole;
  lines = (is, h.lines);
  ranges = omega (arith, ranges, h.ranges);
  answers = subst (λ (n : ℕ). AreWholeAnswers n h.rest) (sym answers) h.answers;
}

-- a line that begins an answer
pub leaves_first : (owed left : Owed) (l : List ℕ) → IsLine l → owed.ranges ≡ 0 → owed.answers ≡ left.answers + 1 → HasLinesAfter l left.ranges
    → LeavesOwed owed (l ∷ []) left
leaves_first owed left l is none answers on more h =
    let first : IsWholeAnswer (l ∷ h.front) = record { first = l; others = h.front; whole = refl; count = subst (HasLinesAfter l) h.ranges on } in
    record {
      front = [];
      rest = l ∷ more;
      whole = refl;
      lines = tt;
      ranges = none;
      answers = record {
        answers = (l ∷ h.front) ∷ h.answers.answers;
        lines = (is, subst AreLines (sym h.whole) (all_append IsLine h.front h.rest h.lines h.answers.lines));
        each = (first, h.answers.each);
        whole = ap (λ (t : List (List ℕ)). l ∷ t) (h.whole ∙ ap (λ (t : List (List ℕ)). h.front ++ t) h.answers.whole);
        count = omega (arith, answers, h.answers.count);
      };
    }

nothing_in_front : (front : List (List ℕ)) → 0 ≡ length front → front ≡ []
nothing_in_front [] e = refl
nothing_in_front (l ∷ ls) e = absurd (omega (arith, e))

nothing_owed : (owed : Owed) → owed.ranges ≡ 0 → owed.answers ≡ 0 → AreOwed owed []
nothing_owed owed ranges answers = record {
  front = [];
  rest = [];
  whole = refl;
  lines = tt;
  ranges = ranges;
  answers = subst (λ (n : ℕ). AreWholeAnswers n []) (sym answers) no_answers;
}

-- nothing is owed after them: they are the answers
pub are_answers : (owed left : Owed) (ls : List (List ℕ)) (n : ℕ) → LeavesOwed owed ls left → owed.ranges ≡ 0 → owed.answers ≡ n → left.ranges ≡ 0
    → left.answers ≡ 0 → AreWholeAnswers n ls
are_answers owed left ls n leaves no_ranges is_n ranges answers =
    let all : AreOwed owed (ls ++ []) = leaves [] (nothing_owed left ranges answers) in
    let front : all.front ≡ [] = nothing_in_front all.front (sym no_ranges ∙ all.ranges) in
    let whole : all.rest ≡ ls = sym (all.whole ∙ ap (λ (t : List (List ℕ)). t ++ all.rest) front) ∙ append-nil ls in
    subst (λ (t : List (List ℕ)). AreWholeAnswers n t) whole (subst (λ (k : ℕ). AreWholeAnswers k all.rest) is_n all.answers)

-- bytes, and the lines in them

-- so far, with what stands after the lines
pub record IsAnsweredSoFar (bytes : List ℕ) (owed : Owed) (rest : List ℕ) (len : ℕ) (left : Owed) : Type 0 where
  pub ls : List (List ℕ)
  pub whole : bytes ≡ lines_text ls ++ rest
  pub len_is : len ≡ length (lines_text ls)
  pub leaves : LeavesOwed owed ls left

pub is_answered : (bytes : List ℕ) (owed : Owed) (rest : List ℕ) (len : ℕ) (left : Owed) → IsAnsweredSoFar bytes owed rest len left → IsAnswered bytes owed len left
is_answered bytes owed rest len left x = record { ls = x.ls; rest = rest; whole = x.whole; len_is = x.len_is; leaves = x.leaves }

pub answered_none : (bytes : List ℕ) (owed : Owed) → IsAnsweredSoFar bytes owed bytes 0 owed
answered_none bytes owed = record {
  ls = [];
  whole = ap (λ (t : List ℕ). t ++ bytes) (sym lines_text-none);
  len_is = ap length (sym lines_text-none);
  leaves = leaves_all owed;
}

pub answered_push : (bytes rest l after : List ℕ) (len : ℕ) (owed mid left : Owed) → IsAnsweredSoFar bytes owed rest len mid → rest ≡ whole_line l ++ after
    → LeavesOwed mid (l ∷ []) left → IsAnsweredSoFar bytes owed after (len + (length l + 1)) left
answered_push bytes rest l after len owed mid left x cut leaves = record {
  ls = x.ls ++ l ∷ [];
  whole = whole_push x.ls bytes rest l after x.whole cut;
  len_is = ap (λ (k : ℕ). k + (length l + 1)) x.len_is ∙ sym (length_push x.ls l);
  leaves = leaves_push owed mid left x.ls l x.leaves leaves;
}

-- the front of the bytes is those lines
pub answered_front : (bytes : List ℕ) (owed : Owed) (len : ℕ) (left : Owed) (x : IsAnswered bytes owed len left) → take len bytes ≡ lines_text x.ls
answered_front bytes owed len left x =
    ap (λ (n : ℕ). take n bytes) x.len_is ∙ (ap (take (length (lines_text x.ls))) x.whole ∙ take_front (lines_text x.ls) x.rest)

pub answered_within : (bytes : List ℕ) (owed : Owed) (len : ℕ) (left : Owed) → IsAnswered bytes owed len left → len ≤ length bytes
answered_within bytes owed len left x = omega (arith, x.len_is, ap length x.whole, length-append (lines_text x.ls) x.rest)
