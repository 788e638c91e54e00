-- What a hint says of the ranges of a block.
use Rattle.std.proofs.Common.{ℕ, zero, suc, ◌≡◌, ◌+◌, ◌-◌, ◌<◌, ◌≤◌, ◌⊎◌, inl, inr, max, min, List, [], ◌∷◌, ◌++◌, length, take, drop, slice_index_or, refl, sym, ap, ◌∙◌, arith, take-append-drop, length-drop}
use Rattle.std.specs.Prelude.{insert, remove}
use Rattle.std.proofs.Math.Seq.{drop-cons}
use Rattle.iova_range.specs.declared.limits.TheConstants.{MAX_FRAMES}
use Rattle.iova_tree.specs.Room.{room}
use Rattle.iova_tree.specs.Spans.{Span, end_after, room_between, room_after, IsHinted}
use Rattle.iova_tree.specs.declared.search.Hint.{Hint}
use Rattle.iova_tree.specs.declared.search.Wanted.{Wanted}
use Rattle.iova_tree.specs.Fit.{IsWanted, higher, place, highest_after}
use Rattle.iova_tree.proofs.Spans.{room_between-after, room_after-middle}
use Rattle.iova_tree.proofs.Bounds.{drop_zero, drop_none}
use Rattle.iova_tree.proofs.Blocks.{end_after-take, highest_after-step, first_lo-drop, room-first}
use Rattle.iova_tree.proofs.Fits.{highest_after-append, highest_after-no_room}

-- the ranges from a place on, and those behind it
drop_next : (at : ℕ) (l : List Span) (d : Span) → at < length l → drop at l ≡ slice_index_or l at d ∷ drop (suc at) l
drop_next at l d lt = drop-cons l at d lt

room_from : (e at : ℕ) (l : List Span) (d : Span) → at < length l → room_between (drop at l) ≡ room_after (end_after e (take (suc at) l)) (drop (suc at) l)
room_from e at l d lt = rw (drop_next at l d lt, end_after-take e at l d lt) refl

-- nothing fits behind the hint's place
pub highest_above : (w : Wanted) (e at : ℕ) (l : List Span) → IsWanted w → at < length l → room_between (drop at l) < w.size → highest_after w e (take (suc at) l) ≡ highest_after w e l
highest_above w e at [] h lt less = absurd (omega arith)
highest_above w e at (d ∷ t) h lt less =
    let l = d ∷ t in
    let r = room_from e at l d lt in
    let none = highest_after-no_room w (end_after e (take (suc at) l)) (drop (suc at) l) h (omega (arith, r)) in
    let parts = highest_after-append w e (take (suc at) l) (drop (suc at) l) in
    let whole = ap (highest_after w e) (take-append-drop (suc at) l) in
    sym (sym whole ∙ parts ∙ rw none refl)

-- one gap more
pub room_step : (at : ℕ) (l : List Span) (x y : Span) → 1 ≤ at → at < length l → x ≡ slice_index_or l at x → y ≡ slice_index_or l (at - 1) y
    → room_between (drop (at - 1) l) ≡ max (room y.end x.lo) (room_between (drop at l))
room_step zero l x y some lt next own = absurd (omega arith)
room_step (suc k) l x y some lt next own =
    let j : suc k - 1 ≡ k = omega arith in
    let n = length-drop (suc k) l in
    let own_is : y ≡ slice_index_or l k y = rw j at own in
    rw (j, drop_next k l y (omega arith), ← own_is) (room-first y (drop (suc k) l) (omega arith) ∙ rw (first_lo-drop (suc k) l x lt next) refl)

pub highest_step : (w : Wanted) (e at : ℕ) (l : List Span) (x y : Span) → 1 ≤ at → at < length l → x ≡ slice_index_or l at x → y ≡ slice_index_or l (at - 1) y
    → highest_after w e (take (suc at) l) ≡ higher (place y.end (min x.lo w.cap) w) (highest_after w e (take (suc (at - 1)) l))
highest_step w e zero l x y some lt next own = absurd (omega arith)
highest_step w e (suc k) l x y some lt next own =
    let j : suc k - 1 ≡ k = omega arith in
    let i : suc (suc k) - 1 ≡ suc k = omega arith in
    let own_is : y ≡ slice_index_or l k y = rw j at own in
    let s = highest_after-step w e (suc (suc k)) l x y (omega arith) (omega arith) (rw i next) (rw (i, j) own_is) in
    rw j (rw i at s)

pub highest_first : (w : Wanted) (e : ℕ) (l : List Span) (x : Span) → 0 < length l → x ≡ slice_index_or l 0 x → highest_after w e (take (suc zero) l) ≡ place e (min x.lo w.cap) w
highest_first w e [] x some is = absurd (omega arith)
highest_first w e (y ∷ []) x some is = rw is refl
highest_first w e (y ∷ (z ∷ l)) x some is = rw is refl

pub drop_inserted : (at : ℕ) (l : List Span) (x : Span) → at ≤ length l → drop (suc at) (insert l at x) ≡ drop at l
drop_inserted zero l x le = refl
drop_inserted (suc at) [] x le = absurd (omega arith)
drop_inserted (suc at) (y ∷ l) x le = drop_inserted at l x (omega arith)

drop_removed : (at m : ℕ) (l : List Span) → at ≤ m → drop m (take at l ++ drop (suc at) l) ≡ drop (suc m) l
drop_removed zero m [] le = drop_none m
drop_removed zero m (x ∷ l) le = ap (drop m) (drop_zero l)
drop_removed (suc at) zero l le = absurd (omega arith)
drop_removed (suc at) (suc m) [] le = refl
drop_removed (suc at) (suc m) (x ∷ l) le = drop_removed at m l (omega arith)

room_drop : (m n : ℕ) (l : List Span) → m ≤ n → room_between (drop n l) ≤ room_between (drop m l)
room_drop zero zero l le = omega arith
room_drop zero (suc n) [] le = omega arith
room_drop zero (suc n) (x ∷ l) le =
    let rest = rw (drop_zero l) at (room_drop zero n l (omega arith)) in
    omega (arith, rest, room_between-after x.end l)
room_drop (suc m) zero l le = absurd (omega arith)
room_drop (suc m) (suc n) [] le = omega arith
room_drop (suc m) (suc n) (x ∷ l) le = room_drop m n l (omega arith)

-- once the range at a place is gone
pub removed_hinted : (hint : Hint) (at : ℕ) (l : List Span) → IsHinted hint l → IsHinted (record { at = max (hint.at - 1) at; above = hint.above }) (remove l at)
removed_hinted hint at l is = λ low.
    let m = max (hint.at - 1) at in
    let e : drop m (remove l at) ≡ drop (suc m) l = drop_removed at m l (omega arith) in
    let less = room_drop hint.at (suc m) l (omega arith) in
    rw e (omega (arith, less, is low))

-- the gaps below a range, that below it, and those above
pub room_thirds : (e at : ℕ) (l : List Span) (x : Span) → at < length l → x ≡ slice_index_or l at x
    → room_after e l ≡ max (max (room_after e (take at l)) (room (end_after e (take at l)) x.lo)) (room_between (drop at l))
room_thirds e at l x lt is =
    let back : drop at l ≡ x ∷ drop (suc at) l = drop-cons l at x lt ∙ ap (λ (y : Span). y ∷ drop (suc at) l) (sym is) in
    let whole = ap (room_after e) (sym (take-append-drop at l) ∙ ap (λ (m : List Span). take at l ++ m) back) in
    let parts = room_after-middle e (take at l) x (drop (suc at) l) in
    rw back (whole ∙ parts)

room_last : (at : ℕ) (l : List Span) → at + 1 ≡ length l → room_between (drop at l) ≡ 0
room_last at [] is = absurd (omega arith)
room_last zero (x ∷ []) is = refl
room_last zero (x ∷ (y ∷ l)) is = absurd (omega arith)
room_last (suc at) (x ∷ l) is = room_last at l (omega arith)

-- where a search begins
pub start_hinted : (hint start : Hint) (l : List Span) (len size : ℕ) → len ≡ length l → size ≤ MAX_FRAMES → IsHinted hint l → start.above < size
    → (start ≡ hint) ⊎ ((start.at + 1 ≡ len) × (start.above ≡ 0)) → room_between (drop start.at l) ≤ start.above
start_hinted hint start l len size n le is less (inl same) =
    let low : start.above ≤ MAX_FRAMES = omega (arith, less, le) in
    rw same (is (rw same at low))
start_hinted hint start l len size n le is less (inr last) =
    let none = room_last start.at l (omega (arith, last.0, n)) in
    omega (arith, none)
