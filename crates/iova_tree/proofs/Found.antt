-- The range that a search between ranges takes.
use Rattle.std.proofs.Common.{◌≡◌, ℕ, ◌+◌, ◌-◌, ◌<◌, ◌≤◌, min, true, List, [], ◌∷◌, length, slice_index_or, Option, Some, None, refl, sym, ap, ◌∙◌, arith}
use Rattle.std.specs.Prelude.{nat_lt, insert}
use Rattle.std.proofs.lemmas.Bool.Decides.{nat_tests}
use Rattle.iova_tree.specs.Spans.{Span, IsRisingFrom, with_span, end_after, first_lo, room_after, room_between}
use Rattle.iova_tree.specs.declared.search.Wanted.{Wanted}
use Rattle.iova_tree.specs.Fit.{IsWanted, higher, place, highest_after, taken}
use Rattle.iova_tree.proofs.Spans.{with_span-later, rising-end, rising-weaken}
use Rattle.std.proofs.lemmas.List.{get_or_default}
use Rattle.iova_tree.proofs.Rooms.{room_mono}
use Rattle.iova_tree.proofs.Blocks.{with_span-at, rising_sorted, own_at}
use Rattle.iova_tree.proofs.Fits.{IsPlace, place_greatest, wanted_align}

pub record ComesIn (w : Wanted) (e s : ℕ) (l : List Span) : Type 0 where
  pub rising : IsRisingFrom e (with_span (taken w s) l)
  pub same_end : end_after e (with_span (taken w s) l) ≡ end_after e l
  pub low : e ≤ s
  pub high : s < end_after e l
  pub cap : s + w.size ≤ w.cap
  pub room : room_after e (with_span (taken w s) l) ≤ room_after e l

pub is_place : (w : Wanted) (from until s : ℕ) → IsWanted w → place from until w ≡ Some s → IsPlace w from until s
is_place w from until s h is = (rw is at (place_greatest w from until (wanted_align w h))).0

pub comes_in : (w : Wanted) (e : ℕ) (l : List Span) (s : ℕ) → IsWanted w → IsRisingFrom e l → highest_after w e l ≡ Some s → ComesIn w e s l
comes_in w e [] s h r is = absurd cc
comes_in w e (x ∷ l) s h r is = split (λ z found. comes_in w x.end l z h r.2 found) (highest_after w x.end l) refl is
  where
    split : ((z : ℕ) → highest_after w x.end l ≡ Some z → ComesIn w x.end z l) → (o : Option ℕ) → highest_after w x.end l ≡ o → higher o (place e (min x.lo w.cap) w) ≡ Some s → ComesIn w e s (x ∷ l)
    split rest (Some z) own found =
        let i = rest s (own ∙ found) in
        let later = with_span-later (taken w s) x l (omega (arith, i.low, r.1)) in
        record {
          rising = rw later (r.0, r.1, i.rising);
          same_end = rw later i.same_end;
          low = omega (arith, i.low, r.0, r.1);
          high = i.high;
          cap = i.cap;
          room = rw later (omega (arith, i.room));
        }
    split rest None own found =
        let p = is_place w e (min x.lo w.cap) s h found in
        let some = h.some in
        let before : nat_lt s x.lo ≡ true = grind (arith, nat_tests, p.below) in
        let behind = rising-end x.end l r.2 in
        let lower = room_mono e x.lo e s (omega arith) (omega (arith, p.below)) in
        let upper = room_mono e x.lo (s + w.size) x.lo (omega (arith, p.above)) (omega arith) in
        record {
          rising = rw before (p.above, omega arith, (omega (arith, p.below), r.1, r.2));
          same_end = rw before refl;
          low = p.above;
          high = omega (arith, p.below, r.1);
          cap = omega (arith, p.below);
          room = rw before (omega (arith, lower, upper));
        }

-- between two neighbours it changes neither edge
pub record ComesBetween (w : Wanted) (s : ℕ) (l : List Span) : Type 0 where
  pub rising : IsRisingFrom 0 (with_span (taken w s) l)
  pub same_first : first_lo (with_span (taken w s) l) ≡ first_lo l
  pub same_end : end_after 0 (with_span (taken w s) l) ≡ end_after 0 l
  pub above : (e : ℕ) → IsRisingFrom e l → e ≤ s
  pub below : s < end_after 0 l
  pub cap : s + w.size ≤ w.cap
  pub room : room_between (with_span (taken w s) l) ≤ room_between l

-- the place where it comes in
goes_at : (x : Span) (l : List Span) (at : ℕ) (y z : Span) → IsRisingFrom 0 l → IsRisingFrom 0 (with_span x l) → 1 ≤ at → at < length l → y ≡ slice_index_or l (at - 1) y → z ≡ slice_index_or l at z → y.end ≤ x.lo → x.lo ≤ z.lo
    → insert l at x ≡ with_span x l
goes_at x l at y z rising free some lt own next low high = with_span-at 0 x l at free (omega arith) below above
  where
    sorted : (i j : ℕ) (d : Span) → i ≤ j → j < length l → (slice_index_or l i d).lo ≤ (slice_index_or l j d).lo
    sorted i j d le lt = rising_sorted 0 l rising i j d le lt

    below : (k : ℕ) (d : Span) → k < at → (slice_index_or l k d).lo < x.lo
    below k d h =
        let s = sorted k (at - 1) d (omega arith) (omega arith) in
        let e : (slice_index_or l (at - 1) d).lo ≡ y.lo = ap (λ (u : Span). u.lo) (get_or_default l (at - 1) d y (omega arith) ∙ sym own) in
        let o = own_at 0 l (at - 1) y rising (omega arith) own in
        omega arith

    above : (k : ℕ) (d : Span) → at ≤ k → k < length l → x.lo ≤ (slice_index_or l k d).lo
    above k d le h =
        let s = sorted at k d le h in
        let e : (slice_index_or l at d).lo ≡ z.lo = ap (λ (u : Span). u.lo) (get_or_default l at d z lt ∙ sym next) in
        omega arith

pub goes_in : (w : Wanted) (e : ℕ) (l : List Span) (at s : ℕ) (y z : Span) → IsWanted w → IsRisingFrom e l → 1 ≤ at → at < length l → y ≡ slice_index_or l (at - 1) y → z ≡ slice_index_or l at z
    → place y.end (min z.lo w.cap) w ≡ Some s → highest_after w e l ≡ Some s → insert l at (taken w s) ≡ with_span (taken w s) l
goes_in w e l at s y z h r some lt own next here found =
    let i = comes_in w e l s h r found in
    let p = is_place w y.end (min z.lo w.cap) s h here in
    goes_at (taken w s) l at y z (rising-weaken 0 e l (omega arith) r) (rising-weaken 0 e _ (omega arith) i.rising) some lt own next p.above (omega (arith, p.below))

-- in front of all
pub goes_first : (w : Wanted) (e : ℕ) (l : List Span) (s : ℕ) (z : Span) → IsWanted w → 0 < length l → z ≡ slice_index_or l 0 z
    → place e (min z.lo w.cap) w ≡ Some s → insert l 0 (taken w s) ≡ with_span (taken w s) l
goes_first w e [] s z h some next here = absurd (omega arith)
goes_first w e (x ∷ l) s z h some next here =
    let p = is_place w e (min z.lo w.cap) s h here in
    let lo : z.lo ≡ x.lo = ap (λ (u : Span). u.lo) next in
    let before : nat_lt s x.lo ≡ true = grind (arith, nat_tests, p.below, h.some, lo) in
    rw before refl
