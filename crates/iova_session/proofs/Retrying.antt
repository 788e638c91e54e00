-- Waiting clients, tried one after another.
use Rattle.std.proofs.Common.{length-set, ℕ, ◌≡◌, ◌+◌, ◌<◌, ◌≤◌, inl, inr, List, [], ◌∷◌, ◌++◌, Option, Some, None, refl, sym, ap, ◌∙◌, arith, subst, take, drop, get_or, append_assoc}
use Rattle.std.specs.Prelude.{Bool, true, false, length, slice_set}
use Rattle.std.proofs.lemmas.List.{drop_more, drop_all, take_more, take_more_set, drop-set-lt}
use Rattle.iova_range.specs.declared.limits.TheConstants.{MAX_HOLDINGS}
use Rattle.iova_model.specs.State.{State}
use Rattle.iova_sink.specs.Calls.{Call}
use Rattle.iova_keep.specs.Views.{SeatState, WhereKnown}
use Rattle.iova_session.specs.Posts.{IsSublist, Retries, RetriesAll, kept_if}
use Rattle.iova_session.specs.declared.leaving.Attempt.{Attempt}
use Rattle.iova_session.specs.Leaving.{Attempts}
use Rattle.iova_session.proofs.Others.{known_one}

-- A place behind which two lists are the same.

abbrev tail : List ℕ → List ℕ
tail [] = []
tail (x ∷ xs) = xs

abbrev head_or : ℕ → List ℕ → ℕ
head_or d [] = d
head_or d (x ∷ xs) = x

drop_next : (xs ys : List ℕ) (at d : ℕ) → at < length xs → at < length ys → drop at xs ≡ drop at ys → drop (at + 1) xs ≡ drop (at + 1) ys
drop_next xs ys at d lx ly e = ap tail (sym (drop_more xs at d lx) ∙ e ∙ drop_more ys at d ly)

same_there : (xs ys : List ℕ) (at d : ℕ) → at < length xs → at < length ys → drop at xs ≡ drop at ys → get_or xs at d ≡ get_or ys at d
same_there xs ys at d lx ly e = ap (head_or d) (sym (drop_more xs at d lx) ∙ e ∙ drop_more ys at d ly)

-- Those that are kept.

pub kept_last : (xs ys : List ℕ) (y : ℕ) → IsSublist xs ys → IsSublist (xs ++ y ∷ []) (ys ++ y ∷ [])
kept_last [] [] y h = inl (refl, tt)
kept_last [] (z ∷ ys) y h = inr (kept_last [] ys y tt)
kept_last (x ∷ xs) [] y h = absurd h
kept_last (x ∷ xs) (z ∷ ys) y (inl h) = inl (h.0, kept_last xs ys y h.1)
kept_last (x ∷ xs) (z ∷ ys) y (inr h) = inr (kept_last (x ∷ xs) ys y h)

pub left_out : (xs ys : List ℕ) (y : ℕ) → IsSublist xs ys → IsSublist xs (ys ++ y ∷ [])
left_out [] ys y h = tt
left_out (x ∷ xs) [] y h = absurd h
left_out (x ∷ xs) (z ∷ ys) y (inl h) = inl (h.0, left_out xs ys y h.1)
left_out (x ∷ xs) (z ∷ ys) y (inr h) = inr (left_out (x ∷ xs) ys y h)

-- one client is tried, and then those after it
pub tried_first : (over : Bool) (number : ℕ) (ids : List ℕ) (at id : ℕ) (a : Attempt) (more : List ℕ) (seat mid left : SeatState) (before calls now : List Call) (o p q : Option State)
    → at < length ids → id ≡ get_or ids at id → mid.worker ≡ seat.worker
    → WhereKnown o p (Attempts over seat mid id a number before calls)
    → WhereKnown p q (Retries a.over number (drop (at + 1) ids) more mid left calls now)
    → WhereKnown o q (Retries over number (drop at ids) (kept_if a.kept id ++ more) seat left before now)
tried_first over number ids at id a more seat mid left before calls now None p q lt e same x y = tt
tried_first over number ids at id a more seat mid left before calls now (Some s) None q lt e same x y = absurd x
tried_first over number ids at id a more seat mid left before calls now (Some s) (Some m) None lt e same x y = absurd y
tried_first over number ids at id a more seat mid left before calls now (Some s) (Some m) (Some t) lt e same x y =
    let here : drop at ids ≡ id ∷ drop (at + 1) ids = drop_more ids at id lt ∙ ap (λ x. x ∷ drop (at + 1) ids) (sym e) in
    subst (λ (rest : List ℕ). Retries over number rest (kept_if a.kept id ++ more) seat left before now s t) (sym here) (a, mid, calls, m, more, same, x, refl, y)

-- all were tried
pub tried_all : (over : Bool) (number : ℕ) (ids : List ℕ) (at : ℕ) (seat : SeatState) (calls : List Call) (o : Option State) → length ids ≤ at → WhereKnown o o (Retries over number (drop at ids) [] seat seat calls calls)
tried_all over number ids at seat calls None le = tt
tried_all over number ids at seat calls (Some s) le = subst (λ (rest : List ℕ). Retries over number rest [] seat seat calls calls s s) (sym (drop_all at ids le)) (refl, refl, refl, refl)

-- a round, which was over before it began only for want of room
pub tried_with : (over : Bool) (room number : ℕ) (ids kept : List ℕ) (seat left : SeatState) (before now : List Call) (o p : Option State) → (over ≡ true → room < MAX_HOLDINGS)
    → WhereKnown o p (Retries over number ids kept seat left before now) → WhereKnown o p (RetriesAll room number ids kept seat left before now)
tried_with over room number ids kept seat left before now o p few h =
    known_one o p (Retries over number ids kept seat left before now) (RetriesAll room number ids kept seat left before now) h (λ s t x. (over, few, x))

-- with none waiting there is nothing to try
pub tried_none : (room number : ℕ) (ids : List ℕ) (seat : SeatState) (calls : List Call) (o : Option State) → ids ≡ [] → WhereKnown o o (RetriesAll room number ids ids seat seat calls calls)
tried_none room number ids seat calls None none = tt
tried_none room number ids seat calls (Some s) none = rw none (false, (λ e. absurd cc), (refl, refl, refl, refl))

-- how the list stands once so many were tried and so many of them kept
pub record Tried (ids now : List ℕ) (at left : ℕ) : Type 0 where
  pub few : left ≤ at
  pub long : length now ≡ length ids
  pub rest : drop at now ≡ drop at ids
  pub some : IsSublist (take left now) (take at ids)

pub one_kept : (ids now : List ℕ) (at left id : ℕ) → at < length ids → id ≡ get_or now at id → Tried ids now at left
    → Tried ids (slice_set now left id) (at + 1) (left + 1)
one_kept ids now at left id lt e t =
    let ln : at < length now = omega (arith, lt, t.long) in
    let there = same_there now ids at id ln lt t.rest in
    record {
      few = omega (arith, t.few);
      long = length-set now left id ∙ t.long;
      rest = drop-set-lt (at + 1) now left id (omega (arith, t.few)) ∙ drop_next now ids at id ln lt t.rest;
      some = rw (take_more_set now left id (omega (arith, t.few, ln)), take_more ids at id lt, ← there, ← e) (kept_last (take left now) (take at ids) id t.some);
    }

pub one_gone : (ids now : List ℕ) (at left id : ℕ) → at < length ids → Tried ids now at left → Tried ids now (at + 1) left
one_gone ids now at left id lt t =
    let ln : at < length now = omega (arith, lt, t.long) in
    record {
      few = omega (arith, t.few);
      long = t.long;
      rest = drop_next now ids at id ln lt t.rest;
      some = rw (take_more ids at id lt) (left_out (take left now) (take at ids) (get_or ids at id) t.some);
    }

pub kept_there : (ids now : List ℕ) (at left id : ℕ) → at < length ids → id ≡ get_or now at id → Tried ids now at left → id ≡ get_or ids at id
kept_there ids now at left id lt e t = e ∙ same_there now ids at id (omega (arith, lt, t.long)) lt t.rest

pub kept_more : (now more : List ℕ) (left id : ℕ) → left < length now → take left now ++ (id ∷ [] ++ more) ≡ take (left + 1) (slice_set now left id) ++ more
kept_more now more left id lt = sym (append_assoc (take left now) (id ∷ []) more) ∙ ap (λ xs. xs ++ more) (sym (take_more_set now left id lt))
