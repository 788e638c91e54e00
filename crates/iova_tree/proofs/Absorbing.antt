-- How a walk over the windows makes the union of a window with those that it meets.
use Rattle.std.proofs.Common.{ℕ, zero, suc, ◌≡◌, ◌-◌, ◌<◌, ◌≤◌, true, false, List, ◌∷◌, ◌++◌, length, take, drop, slice_index_or, refl, sym, ap, ◌∙◌, arith}
use Rattle.std.specs.Prelude.{All, remove}
use Rattle.std.proofs.Math.Seq.{drop-cons, take-suc, take-length, drop-length}
use Rattle.std.proofs.lemmas.List.{take-append-le, take-take, drop_at, length-take-le, get_or_append_left, get_or-take, append-nil, append_assoc, length-append, get_or_default}
use Rattle.iova_range.specs.Frames.{Frames, meets, join}
use Rattle.iova_model.specs.Next.{union}
use Rattle.iova_tree.specs.Space.{clear_of}

-- How far the walk from the last range down has come: from place i on the ranges that meet r have left the list, and `all`
-- is the union of r with these.
pub record Absorbs (r : Frames) (old : List Frames) (i : ℕ) (all : Frames) (now : List Frames) : Type 0 where
  pub within : i ≤ length old
  pub union : all ≡ union r (drop i old)
  pub list : now ≡ take i old ++ clear_of r (drop i old)
  pub above_zero : 1 ≤ all.lo

pub absorbs_first : (r : Frames) (old : List Frames) → 1 ≤ r.lo → Absorbs r old (length old) r old
absorbs_first r old some = record {
  within = omega arith;
  union = rw (drop-length old) refl;
  list = rw (drop-length old, take-length old, append-nil old) refl;
  above_zero = some;
}

-- what the list has below the place where the walk is
pub absorbs_at : (r : Frames) (old : List Frames) (i : ℕ) (all : Frames) (now : List Frames) (k : ℕ) (d : Frames) → Absorbs r old i all now → k < i → slice_index_or now k d ≡ slice_index_or old k d
absorbs_at r old i all now k d h lt =
    let len : length (take i old) ≡ i = length-take-le i old h.within in
    rw (h.list, get_or_append_left (take i old) (clear_of r (drop i old)) d k (omega arith), get_or-take i old k d lt) refl

pub absorbs_within : (r : Frames) (old : List Frames) (i : ℕ) (all : Frames) (now : List Frames) → Absorbs r old i all now → i ≤ length now
absorbs_within r old i all now h =
    let len : length (take i old) ≡ i = length-take-le i old h.within in
    rw (h.list, length-append (take i old) (clear_of r (drop i old))) (omega arith)

pub join_above_zero : (a b : Frames) → 1 ≤ a.lo → 1 ≤ b.lo → 1 ≤ (join a b).lo
join_above_zero a b p q = omega arith

module _ (r : Frames) (old : List Frames) (i : ℕ) (all : Frames) (now : List Frames) (w : Frames) (h : Absorbs r old (suc i) all now) (is : w ≡ slice_index_or now i w) where
  here : w ≡ slice_index_or old i w
  here = is ∙ absorbs_at r old (suc i) all now i w h (omega arith)

  split : drop i old ≡ w ∷ drop (suc i) old
  split = drop-cons old i w (omega (arith, h.within)) ∙ ap (λ (x : Frames). x ∷ drop (suc i) old) (sym here)

  removed : remove now i ≡ take i old ++ clear_of r (drop (suc i) old)
  removed =
      let len : length (take (suc i) old) ≡ suc i = length-take-le (suc i) old h.within in
      let front : take i (take (suc i) old ++ clear_of r (drop (suc i) old)) ≡ take i old = take-append-le i (take (suc i) old) _ (omega arith) ∙ take-take i (suc i) old (omega arith) in
      let back : drop (suc i) (take (suc i) old ++ clear_of r (drop (suc i) old)) ≡ clear_of r (drop (suc i) old) = drop_at (take (suc i) old) _ (suc i) len in
      rw (h.list, front, back) refl

  absorbs_joined : meets r w ≡ true → 1 ≤ w.lo → Absorbs r old i (join all w) (remove now i)
  absorbs_joined met some = record {
    within = omega (arith, h.within);
    union = rw (split, met, h.union) refl;
    list = rw (split, met) removed;
    above_zero = join_above_zero all w h.above_zero some;
  }

  absorbs_kept : meets r w ≡ false → Absorbs r old i all now
  absorbs_kept apart = record {
    within = omega (arith, h.within);
    union = rw (split, apart) h.union;
    list = rw (split, apart, h.list, take-suc old i w (omega (arith, h.within)), ← here, append_assoc) refl;
    above_zero = h.above_zero;
  }

-- one more is absorbed, at a place above zero; what is tested and what is removed are read each on its own
pub absorbs_join : (r : Frames) (old : List Frames) (i : ℕ) (all : Frames) (now : List Frames) (v w : Frames) → 0 < i → Absorbs r old i all now → v ≡ slice_index_or now (i - 1) v → w ≡ slice_index_or now (i - 1) w
    → meets r v ≡ true → All (λ (x : Frames). 1 ≤ x.lo) old → Absorbs r old (i - 1) (join all w) (remove now (i - 1))
absorbs_join r old zero all now v w lt h read is met some = absurd (omega arith)
absorbs_join r old (suc i) all now v w lt h read is met some =
    let place : suc i - 1 ≡ i = omega arith in
    let within : suc i ≤ length now = absorbs_within r old (suc i) all now h in
    let is_w : w ≡ slice_index_or now i w = rw place at is in
    let same : v ≡ w = rw place at read ∙ (get_or_default now i v w (omega arith) ∙ sym is_w) in
    let above : 1 ≤ w.lo = rw (here r old i all now w h is_w) (some i w (omega (arith, h.within))) in
    rw place (absorbs_joined r old i all now w h is_w (rw same at met) above)

pub absorbs_keep : (r : Frames) (old : List Frames) (i : ℕ) (all : Frames) (now : List Frames) (w : Frames) → 0 < i → Absorbs r old i all now → w ≡ slice_index_or now (i - 1) w → meets r w ≡ false → Absorbs r old (i - 1) all now
absorbs_keep r old zero all now w lt h is apart = absurd (omega arith)
absorbs_keep r old (suc i) all now w lt h is apart =
    let place : suc i - 1 ≡ i = omega arith in
    rw place (absorbs_kept r old i all now w h (rw place at is) apart)

pub absorbs_all : (r : Frames) (old : List Frames) (all : Frames) (now : List Frames) → Absorbs r old 0 all now → (all ≡ union r old) × (now ≡ clear_of r old)
absorbs_all r old all now h = (h.union, h.list)
