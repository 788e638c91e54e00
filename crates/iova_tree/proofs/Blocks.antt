-- The ranges of a block, read from one end to the other.
use Rattle.std.proofs.Common.{ℕ, zero, suc, ◌≡◌, ◌+◌, ◌-◌, ◌<◌, ◌≤◌, ◌⊎◌, inl, inr, max, min, ◌&&◌, ◌||◌, Bool, true, false, not, cond, List, [], ◌∷◌, ◌++◌, length, take, drop, slice_index_or, refl, sym, ap, ◌∙◌, arith, take-append-drop, length-drop}
use Rattle.std.specs.Prelude.{nat_lt, nat_le, nat_eq, insert, remove}
use Rattle.std.specs.List.Sorted.{IsNonDecreasingBy}
use Rattle.std.proofs.Math.Seq.{take-suc, drop-cons}
use Rattle.std.proofs.lemmas.Bool.{lt-ltb}
use Rattle.std.proofs.lemmas.Bool.Decides.{nat_tests}
use Rattle.std.proofs.lemmas.List.{length-take-le, get_or_default, append-nil, drop_all}
use Rattle.std.proofs.lemmas.List.Edits.{insert_end}
use Rattle.iova_tree.specs.Room.{room}
use Rattle.iova_tree.specs.Spans.{Span, end_after, first_lo, room_between, room_after, with_span, without_span, range_of_span, has_frame, is_taken_between, all_of, inserted_of, IsRisingFrom, Holds, StandsHere}
use Rattle.iova_range.specs.Frames.{Frames, covers, meets}
use Rattle.iova_model.specs.Fit.{is_covered}
use Rattle.std.specs.List.{list_any}
use Rattle.iova_tree.specs.declared.search.Wanted.{Wanted}
use Rattle.iova_tree.specs.Fit.{higher, place, highest_after}
use Rattle.iova_tree.proofs.Rooms.{room_mono, room-below}
use Rattle.iova_tree.proofs.Spans.{end_after-middle, room_between-middle, rising-front, with_span-front, with_span-later, rising_with, holds_above, rising-back, rising-end, room_after-append}
use Rattle.iova_tree.proofs.Fits.{highest_after-append}

end_after-at : (e : ℕ) (l : List Span) (d : Span) (k : ℕ) → length l ≡ suc k → end_after e l ≡ (slice_index_or l k d).end
end_after-at e [] d k n = absurd (omega arith)
end_after-at e (x ∷ []) d zero n = refl
end_after-at e (x ∷ []) d (suc k) n = absurd (omega arith)
end_after-at e (x ∷ (y ∷ t)) d zero n = absurd (omega arith)
end_after-at e (x ∷ (y ∷ t)) d (suc k) n = end_after-at x.end (y ∷ t) d k (omega arith)

pub end_after-last : (e : ℕ) (l : List Span) (x : Span) → 0 < length l → x ≡ slice_index_or l (length l - 1) x → x.end ≡ end_after e l
end_after-last e l x some is = sym (end_after-at e l x (length l - 1) (omega arith) ∙ ap (λ (y : Span). y.end) (sym is))

-- the first ranges but one, and that one
pub end_after-take : (e k : ℕ) (l : List Span) (d : Span) → k < length l → end_after e (take (suc k) l) ≡ (slice_index_or l k d).end
end_after-take e k l d lt = rw (take-suc l k d lt) (end_after-middle e (take k l) (slice_index_or l k d) [])

-- one more range at the end

pub end_after-next : (e k : ℕ) (l : List Span) (x : Span) → k < length l → x ≡ slice_index_or l k x → end_after e (take (suc k) l) ≡ x.end
end_after-next e k l x lt is = end_after-take e k l x lt ∙ ap (λ (y : Span). y.end) (sym is)

pub room_after-next : (e k : ℕ) (l : List Span) (x : Span) → k < length l → x ≡ slice_index_or l k x → room_after e (take (suc k) l) ≡ max (room_after e (take k l)) (room (end_after e (take k l)) x.lo)
room_after-next e k l x lt is =
    let a = room_after-append e (take k l) (x ∷ []) in
    rw (take-suc l k x lt, ← is) (omega (arith, a))

pub highest_after-next : (w : Wanted) (e k : ℕ) (l : List Span) (x : Span) → k < length l → x ≡ slice_index_or l k x
    → highest_after w e (take (suc k) l) ≡ higher (place (end_after e (take k l)) (min x.lo w.cap) w) (highest_after w e (take k l))
highest_after-next w e k l x lt is = rw (take-suc l k x lt, ← is) (highest_after-append w e (take k l) (x ∷ []))

-- the ranges y and x stand at the places before `at`
pub highest_after-step : (w : Wanted) (e at : ℕ) (l : List Span) (x y : Span) → 1 < at → at ≤ length l → x ≡ slice_index_or l (at - 1) x → y ≡ slice_index_or l (at - 1 - 1) y
    → highest_after w e (take at l) ≡ higher (place y.end (min x.lo w.cap) w) (highest_after w e (take (at - 1) l))
highest_after-step w e zero l x y some le p q = absurd (omega arith)
highest_after-step w e (suc zero) l x y some le p q = absurd (omega arith)
highest_after-step w e (suc (suc k)) l x y some le p q =
    let i : suc (suc k) - 1 ≡ suc k = omega arith in
    let j : suc k - 1 ≡ k = omega arith in
    let x_is : x ≡ slice_index_or l (suc k) x = rw i at p in
    let y_is : y ≡ slice_index_or l k y = rw j at (rw i at q) in
    let n = highest_after-next w e (suc k) l x (omega arith) x_is in
    let m = end_after-next e k l y (omega arith) y_is in
    rw (i, n, m) refl

-- a front has no more room than the whole
pub room_after-front : (e k : ℕ) (l : List Span) → room_after e (take k l) ≤ room_after e l
room_after-front e k l =
    let a = room_after-append e (take k l) (drop k l) in
    let b = rw (take-append-drop k l) at a in
    omega (arith, b)

pub rising_next : (e k : ℕ) (l : List Span) (x : Span) → IsRisingFrom e l → k < length l → x ≡ slice_index_or l k x → end_after e (take k l) ≤ x.lo
rising_next e zero [] x r lt is = absurd (omega arith)
rising_next e (suc k) [] x r lt is = absurd (omega arith)
rising_next e zero (y ∷ l) x r lt is = rw is r.0
rising_next e (suc k) (y ∷ l) x r lt is = rising_next y.end k l x r.2 (omega arith) is

pub end_rises : (e k : ℕ) (l : List Span) → 1 ≤ e → IsRisingFrom e l → 1 ≤ end_after e (take k l)
end_rises e k l some r = let i = rising-end e (take k l) (rising-front e (take k l) (drop k l) (rw (sym (take-append-drop k l)) at r)) in omega arith

-- each of them has a frame
pub some_end : (e : ℕ) (l : List Span) (k : ℕ) (x : Span) → IsRisingFrom e l → k < length l → x ≡ slice_index_or l k x → 1 ≤ x.end
some_end e [] k x r lt is = absurd (omega arith)
some_end e (y ∷ l) zero x r lt is = rw is (omega (arith, r.1))
some_end e (y ∷ l) (suc k) x r lt is = some_end y.end l k x r.2 (omega arith) is

pub own_at : (e : ℕ) (l : List Span) (k : ℕ) (x : Span) → IsRisingFrom e l → k < length l → x ≡ slice_index_or l k x → x.lo < x.end
own_at e [] k x r lt is = absurd (omega arith)
own_at e (y ∷ l) zero x r lt is = rw is r.1
own_at e (y ∷ l) (suc k) x r lt is = own_at y.end l k x r.2 (omega arith) is

-- the ranges at neighbouring places
pub apart_at : (e : ℕ) (l : List Span) (at : ℕ) (x y : Span) → IsRisingFrom e l → 1 ≤ at → at < length l → x ≡ slice_index_or l at x → y ≡ slice_index_or l (at - 1) y → y.end ≤ x.lo
apart_at e [] at x y r some lt p q = absurd (omega arith)
apart_at e (z ∷ l) zero x y r some lt p q = absurd (omega arith)
apart_at e (z ∷ []) (suc k) x y r some lt p q = absurd (omega arith)
apart_at e (z ∷ (u ∷ t)) (suc zero) x y r some lt p q = rw (p, q) r.2.0
apart_at e (z ∷ (u ∷ t)) (suc (suc k)) x y r some lt p q =
    let j : suc (suc k) - 1 ≡ suc k = omega arith in
    let i : suc k - 1 ≡ k = omega arith in
    apart_at z.end (u ∷ t) (suc k) x y r.2 (omega arith) (omega arith) p (rw i (rw j at q))

pub first_lo-drop : (k : ℕ) (l : List Span) (x : Span) → k < length l → x ≡ slice_index_or l k x → first_lo (drop k l) ≡ x.lo
first_lo-drop k l x lt is = rw (drop-cons l k x lt) (ap (λ (y : Span). y.lo) (sym is))

-- where the ranges before a place end
pub end_after-before : (e : ℕ) (l : List Span) (at : ℕ) (y : Span) → 1 ≤ at → at ≤ length l → y ≡ slice_index_or l (at - 1) y → end_after e (take at l) ≡ y.end
end_after-before e l zero y some le is = absurd (omega arith)
end_after-before e l (suc k) y some le is =
    let i : suc k - 1 ≡ k = omega arith in
    end_after-next e k l y (omega arith) (rw i at is)

pub end_after-front : (l : List Span) (at : ℕ) (y : Span) → 1 ≤ at → at ≤ length l → y ≡ slice_index_or l (at - 1) y → end_after 0 (take at l) ≡ y.end
end_after-front l at y some le is = end_after-before 0 l at y some le is

pub rising_front : (l : List Span) (e : ℕ) → 0 < length l → IsRisingFrom e l → e ≤ first_lo l
rising_front [] e some r = absurd (omega arith)
rising_front (x ∷ l) e some r = r.0

-- Two parts that are not empty, and a range between them.

pub room-joined : (f g : List Span) → 0 < length f → 0 < length g → room_between (f ++ g) ≡ max (room_between f) (max (room (end_after 0 f) (first_lo g)) (room_between g))
room-joined [] g p q = absurd (omega arith)
room-joined (x ∷ f) [] p q = absurd (omega arith)
room-joined (x ∷ f) (k ∷ r) p q = let m = room_between-middle (x ∷ f) k r in rw m (omega arith)

pub room-first : (x : Span) (g : List Span) → 0 < length g → room_between (x ∷ g) ≡ max (room x.end (first_lo g)) (room_between g)
room-first x [] p = absurd (omega arith)
room-first x (k ∷ r) p = refl

pub room-last : (f : List Span) (x : Span) → 0 < length f → room_between (f ++ x ∷ []) ≡ max (room_between f) (room (end_after 0 f) x.lo)
room-last f x p = let j = room-joined f (x ∷ []) p (omega arith) in rw j (omega arith)

-- once it has come in, no gap has more room than before
pub room-inside_most : (f : List Span) (x : Span) (g : List Span) → 0 < length f → 0 < length g → end_after 0 f ≤ x.lo → x.end ≤ first_lo g → x.lo ≤ x.end → room_between (f ++ x ∷ g) ≤ room_between (f ++ g)
room-inside_most f x g p q low high own =
    let j = room-joined f g p q in
    let k = room-joined f (x ∷ g) p (omega arith) in
    let h = room-first x g q in
    let a = room_mono (end_after 0 f) (first_lo g) (end_after 0 f) x.lo (omega arith) (omega arith) in
    let b = room_mono (end_after 0 f) (first_lo g) x.end (first_lo g) (omega arith) (omega arith) in
    omega arith

-- a part has no more room than the whole
pub room-front : (f g : List Span) → room_between f ≤ room_between (f ++ g)
room-front [] g = omega arith
room-front (x ∷ f) [] = rw (append-nil f) (omega arith)
room-front (x ∷ f) (k ∷ r) = let j = room-joined (x ∷ f) (k ∷ r) (omega arith) (omega arith) in omega arith

pub room-back : (f g : List Span) → room_between g ≤ room_between (f ++ g)
room-back [] g = omega arith
room-back (x ∷ f) [] = omega arith
room-back (x ∷ f) (k ∷ r) = let j = room-joined (x ∷ f) (k ∷ r) (omega arith) (omega arith) in omega arith

pub room-take : (at : ℕ) (l : List Span) → room_between (take at l) ≤ room_between l
room-take at l = rw (take-append-drop at l) at (room-front (take at l) (drop at l))

-- once it is gone there is one gap in place of two
pub room-outside : (f : List Span) (x : Span) (g : List Span) → 0 < length f → 0 < length g → end_after 0 f ≤ x.lo → x.end ≤ first_lo g → x.lo ≤ x.end
    → room_between (f ++ g) ≡ max (room_between (f ++ x ∷ g)) (room (end_after 0 f) (first_lo g))
room-outside f x g p q low high own =
    let j = room-joined f g p q in
    let k = room-joined f (x ∷ g) p (omega arith) in
    let h = room-first x g q in
    let a = room_mono (end_after 0 f) (first_lo g) (end_after 0 f) x.lo (omega arith) (omega arith) in
    let b = room_mono (end_after 0 f) (first_lo g) x.end (first_lo g) (omega arith) (omega arith) in
    omega arith

-- Where a range comes in, and where one is.

with_span-strict : (e : ℕ) (x y : Span) (t : List Span) → IsRisingFrom e (with_span x (y ∷ t)) → x.lo ≤ y.lo → x.lo < y.lo
with_span-strict e x y t r le = split (nat_lt x.lo y.lo) refl
  where
    split : (b : Bool) → nat_lt x.lo y.lo ≡ b → x.lo < y.lo
    split true h = grind (arith, nat_tests)
    split false h =
        let later : y.lo ≤ x.lo = grind (arith, nat_tests) in
        let s = rw (with_span-later x y t later) at r in
        let w = rising_with y.end x t s.2 in
        absurd (omega (arith, s.1, w.0))

pub with_span-at : (e : ℕ) (x : Span) (l : List Span) (n : ℕ) → IsRisingFrom e (with_span x l) → n ≤ length l
    → ((k : ℕ) (d : Span) → k < n → (slice_index_or l k d).lo < x.lo) → ((k : ℕ) (d : Span) → n ≤ k → k < length l → x.lo ≤ (slice_index_or l k d).lo)
    → insert l n x ≡ with_span x l
with_span-at e x [] zero r le below above = refl
with_span-at e x [] (suc n) r le below above = absurd (omega arith)
with_span-at e x (y ∷ t) zero r le below above =
    let lt = with_span-strict e x y t r (above 0 y (omega arith) (omega arith)) in
    rw (lt-ltb x.lo y.lo lt) refl
with_span-at e x (y ∷ t) (suc n) r le below above =
    let lt : y.lo < x.lo = below 0 y (omega arith) in
    let later = with_span-later x y t (omega arith) in
    let s = rw later at r in
    rw later (ap (λ (m : List Span). y ∷ m) (with_span-at y.end x t n s.2 (omega arith) (λ k d h. below (suc k) d (omega arith)) (λ k d h m. above (suc k) d (omega arith) (omega arith))))

pub stands_after : (e lo : ℕ) (l : List Span) (n : ℕ) → IsRisingFrom e l → Holds lo l → n ≤ length l
    → ((k : ℕ) (d : Span) → k < n → (slice_index_or l k d).lo < lo) → ((k : ℕ) (d : Span) → n ≤ k → k < length l → lo ≤ (slice_index_or l k d).lo)
    → StandsHere lo l n
stands_after e lo [] n r h le below above = absurd h
stands_after e lo (y ∷ t) zero r (inl is) le below above =
    let test : nat_eq y.lo lo ≡ true = grind (arith, nat_tests) in
    record {
      within = omega arith;
      begins = λ d. is;
      without = rw test refl;
      replaced = λ d. rw test refl;
      again = λ d. rw test (sym (with_span-front y t r.1 r.2));
    }
stands_after e lo (y ∷ t) zero r (inr h) le below above =
    let low = above 0 y (omega arith) (omega arith) in
    let high = holds_above y.end lo t r.2 h in
    absurd (omega (arith, r.1))
stands_after e lo (y ∷ t) (suc n) r (inl is) le below above = let lt = below 0 y (omega arith) in absurd (omega arith)
stands_after e lo (y ∷ t) (suc n) r (inr h) le below above =
    let high = holds_above y.end lo t r.2 h in
    let test : nat_eq y.lo lo ≡ false = grind (arith, nat_tests, r.1) in
    let i = stands_after y.end lo t n r.2 h (omega arith) (λ k d q. below (suc k) d (omega arith)) (λ k d p q. above (suc k) d (omega arith) (omega arith)) in
    record {
      within = omega (arith, i.within);
      begins = i.begins;
      without = rw test (ap (λ (m : List Span). y ∷ m) i.without);
      replaced = λ d. rw test (ap (λ (m : List Span). y ∷ m) (i.replaced d));
      again = λ d.
          let b = i.begins d in
          rw test (ap (λ (m : List Span). y ∷ m) (i.again d) ∙ sym (with_span-later (slice_index_or t n d) y (without_span lo t) (omega (arith, r.1))));
    }

rising_above : (e : ℕ) (l : List Span) → IsRisingFrom e l → (k : ℕ) (d : Span) → k < length l → e ≤ (slice_index_or l k d).lo
rising_above e [] r k d lt = absurd (omega arith)
rising_above e (y ∷ t) r zero d lt = r.0
rising_above e (y ∷ t) r (suc k) d lt = let i = rising_above y.end t r.2 k d (omega arith) in omega (arith, r.0, r.1)

pub rising_sorted : (e : ℕ) (l : List Span) → IsRisingFrom e l → IsNonDecreasingBy (λ (x : Span). x.lo) l
rising_sorted e [] r i j d le lt = absurd (omega arith)
rising_sorted e (y ∷ t) r zero zero d le lt = omega arith
rising_sorted e (y ∷ t) r zero (suc j) d le lt = let i = rising_above y.end t r.2 j d (omega arith) in omega (arith, r.1)
rising_sorted e (y ∷ t) r (suc i) zero d le lt = absurd (omega arith)
rising_sorted e (y ∷ t) r (suc i) (suc j) d le lt = rising_sorted y.end t r.2 i j d (omega arith) (omega arith)

-- where a range is found to begin
pub stands_at : (lo : ℕ) (l : List Span) (at : ℕ) (x : Span) → IsRisingFrom 0 l → Holds lo l → at < length l → x ≡ slice_index_or l at x → x.lo ≡ lo → StandsHere lo l at
stands_at lo l at x r held lt is begins = stands_after 0 lo l at r held (omega arith) below above
  where
    own_lo : (d : Span) → (slice_index_or l at d).lo ≡ lo
    own_lo d = ap (λ (u : Span). u.lo) (get_or_default l at d x lt ∙ sym is) ∙ begins

    below : (k : ℕ) (d : Span) → k < at → (slice_index_or l k d).lo < lo
    below k d h =
        let y = slice_index_or l (at - 1) d in
        let y_is : y ≡ slice_index_or l (at - 1) y = get_or_default l (at - 1) d y (omega arith) in
        let s = rising_sorted 0 l r k (at - 1) d (omega arith) (omega arith) in
        let o = own_at 0 l (at - 1) y r (omega arith) y_is in
        let a = apart_at 0 l at x y r (omega arith) lt is y_is in
        omega arith

    above : (k : ℕ) (d : Span) → at ≤ k → k < length l → lo ≤ (slice_index_or l k d).lo
    above k d le h =
        let s = rising_sorted 0 l r at k d le h in
        let o = own_lo d in
        omega arith

-- The most room once a range has come in at a place.

pub inserted_last : (l : List Span) (at : ℕ) (x y : Span) → 1 ≤ at → at ≡ length l → y ≡ slice_index_or l (at - 1) y → room_between (insert l at x) ≡ max (room_between l) (room y.end x.lo)
inserted_last l at x y some is own =
    let e = end_after-last 0 l y (omega arith) (rw is at own) in
    rw (is, insert_end l x, room-last l x (omega arith), e) refl

pub inserted_low : (l : List Span) (at : ℕ) (x z : Span) → at ≡ 0 → 0 < length l → z ≡ slice_index_or l 0 z → IsRisingFrom 0 (insert l at x) → x.end ≤ z.lo
inserted_low [] at x z none some is free = absurd (omega arith)
inserted_low (y ∷ l) zero x z none some is free = rw is free.2.0
inserted_low (y ∷ l) (suc at) x z none some is free = absurd (omega arith)

pub inserted_high : (l : List Span) (at : ℕ) (x y : Span) → 1 ≤ at → at ≤ length l → y ≡ slice_index_or l (at - 1) y → IsRisingFrom 0 (insert l at x) → y.end ≤ x.lo
inserted_high l at x y some le own free = rw (end_after-front l at y some le own) at (rising-back 0 (take at l) (x ∷ drop at l) free).0

-- the range at `at`, the one before it, and one that comes in between
record IsBetween (l : List Span) (at : ℕ) (x y z : Span) : Type 0 where
  pub front : 0 < length (take at l)
  pub back : 0 < length (drop at l)
  pub low : end_after 0 (take at l) ≤ x.lo
  pub high : x.end ≤ first_lo (drop at l)
  pub own : x.lo ≤ x.end
  pub from : end_after 0 (take at l) ≡ y.end
  pub until : first_lo (drop at l) ≡ z.lo

is_between : (l : List Span) (at : ℕ) (x y z : Span) → 1 ≤ at → at < length l → y ≡ slice_index_or l (at - 1) y → z ≡ slice_index_or l at z → IsRisingFrom 0 (insert l at x) → IsBetween l at x y z
is_between l at x y z some lt own next free =
    let n : length (take at l) ≡ at = length-take-le at l (omega arith) in
    let m = length-drop at l in
    let b = rising-back 0 (take at l) (x ∷ drop at l) free in
    record {
      front = omega arith;
      back = omega arith;
      low = b.0;
      high = rising_front (drop at l) x.end (omega arith) b.2;
      own = omega (arith, b.1);
      from = end_after-front l at y some (omega arith) own;
      until = first_lo-drop at l z lt next;
    }

pub inserted_most : (l : List Span) (at : ℕ) (x : Span) → 1 ≤ at → at < length l → IsRisingFrom 0 (insert l at x) → room_between (insert l at x) ≤ room_between l
inserted_most l at x some lt free =
    let y = slice_index_or l (at - 1) x in
    let z = slice_index_or l at x in
    let own : y ≡ slice_index_or l (at - 1) y = get_or_default l (at - 1) x y (omega arith) in
    let next : z ≡ slice_index_or l at z = get_or_default l at x z lt in
    let i = is_between l at x y z some lt own next free in
    rw (take-append-drop at l) at (room-inside_most (take at l) x (drop at l) i.front i.back i.low i.high i.own)

-- The most room once the range at a place is gone.

parts_at : (l : List Span) (at : ℕ) (x : Span) → at < length l → x ≡ slice_index_or l at x → l ≡ take at l ++ x ∷ drop (suc at) l
parts_at l at x lt is = sym (take-append-drop at l) ∙ ap (λ (m : List Span). take at l ++ m) (drop-cons l at x lt ∙ ap (λ (y : Span). y ∷ drop (suc at) l) (sym is))

removed_first : (l : List Span) → room_between (remove l 0) ≤ room_between l
removed_first [] = omega arith
removed_first (x ∷ []) = omega arith
removed_first (x ∷ (k ∷ r)) = omega arith

pub removed_inside : (l : List Span) (at : ℕ) (y z : Span) → 1 ≤ at → at + 1 < length l → y ≡ slice_index_or l (at - 1) y → z ≡ slice_index_or l (at + 1) z → IsRisingFrom 0 l
    → room_between (remove l at) ≡ max (room_between l) (room y.end z.lo)
removed_inside l at y z some lt own next rising =
    let x = slice_index_or l at y in
    let n : length (take at l) ≡ at = length-take-le at l (omega arith) in
    let m = length-drop (suc at) l in
    let j : at + 1 ≡ suc at = omega arith in
    let e = end_after-front l at y some (omega arith) own in
    let f = first_lo-drop (suc at) l z (omega arith) (rw j at next) in
    let is : x ≡ slice_index_or l at x = get_or_default l at y x (omega arith) in
    let whole = parts_at l at x (omega arith) is in
    let b = rising-back 0 (take at l) (x ∷ drop (suc at) l) (rw whole at rising) in
    let h = rising_front (drop (suc at) l) x.end (omega arith) b.2 in
    room-outside (take at l) x (drop (suc at) l) (omega arith) (omega arith) b.0 h (omega (arith, b.1)) ∙ rw (← whole, e, f) refl

-- those beside the one at `at`
pub around_apart : (l : List Span) (at : ℕ) (y z : Span) → IsRisingFrom 0 l → 1 ≤ at → at + 1 < length l → y ≡ slice_index_or l (at - 1) y → z ≡ slice_index_or l (at + 1) z → y.end ≤ z.lo
around_apart l at y z rising some lt own next =
    let x = slice_index_or l at y in
    let is : x ≡ slice_index_or l at x = get_or_default l at y x (omega arith) in
    let i : at + 1 - 1 ≡ at = omega arith in
    let low = apart_at 0 l at x y rising some (omega arith) is own in
    let high = apart_at 0 l (at + 1) z x rising (omega arith) lt next (rw i is) in
    let own = own_at 0 l at x rising (omega arith) is in
    omega arith

removed_last : (l : List Span) (at : ℕ) → at + 1 ≡ length l → room_between (remove l at) ≤ room_between l
removed_last l at last =
    let none : drop (suc at) l ≡ [] = drop_all (suc at) l (omega arith) in
    rw (none, append-nil (take at l)) (room-take at l)

-- the first or the last
pub removed_edge : (l : List Span) (at : ℕ) → (at ≡ 0) ⊎ (at + 1 ≡ length l) → room_between (remove l at) ≤ room_between l
removed_edge l at (inl first) = rw first (removed_first l)
removed_edge l at (inr last) = removed_last l at last

-- no room is above the greatest size of a request
pub room_after-bounded : (e : ℕ) (l : List Span) → room_after e l ≤ 1048576
room_after-bounded e [] = omega arith
room_after-bounded e (x ∷ l) = omega (arith, room-below e x.lo, room_after-bounded x.end l)

pub room_between-bounded : (l : List Span) → room_between l ≤ 1048576
room_between-bounded [] = omega arith
room_between-bounded (x ∷ l) = room_after-bounded x.end l

-- What is covered, and what is taken.

pub covered_any : (e frame : ℕ) (l : List Span) → IsRisingFrom e l → list_any (has_frame frame) l ≡ is_covered frame (all_of l)
covered_any e frame [] r = refl
covered_any e frame (x ∷ l) r =
    let own : has_frame frame x ≡ covers frame (range_of_span x) = same x.lo x.end r.1 in
    rw (own, covered_any x.end frame l r.2) refl
  where
    same : (lo end : ℕ) → lo < end → (nat_le lo frame && nat_lt frame end) ≡ covers frame (record { lo = lo; len = end - lo })
    same lo end lt = let e : lo + (end - lo) ≡ end = omega arith in rw e refl

taken_step : (b c : Bool) (f : Frames) (a : Frames) (t : List Frames) → c ≡ meets a f → ((not b && c) || list_any (meets a) t) ≡ list_any (meets a) (cond (not b) (f ∷ t) t)
taken_step true c f a t e = refl
taken_step false c f a t e = rw e refl

pub taken_any : (e lo end : ℕ) (l : List Span) → lo < end → IsRisingFrom e l → list_any (is_taken_between lo end) l ≡ list_any (meets (record { lo = lo; len = end - lo })) (inserted_of l)
taken_any e lo end [] lt r = refl
taken_any e lo end (x ∷ l) lt r =
    let own : (nat_lt x.lo end && nat_lt lo x.end) ≡ meets (record { lo = lo; len = end - lo }) (range_of_span x) = same x.lo x.end r.1 in
    rw (taken_any x.end lo end l lt r.2) (taken_step x.window _ (range_of_span x) (record { lo = lo; len = end - lo }) (inserted_of l) own)
  where
    and_swap : (a b : Bool) → (a && b) ≡ (b && a)
    and_swap true true = refl
    and_swap true false = refl
    and_swap false true = refl
    and_swap false false = refl

    same : (from until : ℕ) → from < until → (nat_lt from end && nat_lt lo until) ≡ meets (record { lo = lo; len = end - lo }) (record { lo = from; len = until - from })
    same from until q =
        let a : lo + (end - lo) ≡ end = omega arith in
        let b : from + (until - from) ≡ until = omega arith in
        rw (a, b) (and_swap (nat_lt from end) (nat_lt lo until))
