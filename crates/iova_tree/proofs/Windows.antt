-- What a window is refused for, and what the new list of windows keeps.
use Rattle.std.proofs.Common.{ℕ, ◌≡◌, ◌+◌, ◌-◌, ◌<◌, ◌≤◌, ◌||◌, true, false, not, List, [], ◌∷◌, length, Some, None, refl, arith}
use Rattle.std.specs.Prelude.{nat_lt}
use Rattle.std.specs.List.{list_any}
use Rattle.std.proofs.lemmas.Bool.{cond_both}
use Rattle.std.proofs.lemmas.Bool.Decides.{nat_tests}
use Rattle.iova_range.specs.declared.refusal.Refusal.TheVariants as refusal
use Rattle.iova_range.specs.Frames.{Frames, meets}
use Rattle.iova_model.specs.Clients.{insert_rising}
use Rattle.iova_model.specs.Next.{from_to, union, windows_with}
use Rattle.iova_tree.specs.Space.{Space, RiseApart, clear_of, reserve_refusal}
use Rattle.iova_tree.proofs.Apart.{rise_lower}

-- Some of the ranges.

pub rise_filter : (from until : ℕ) (r : Frames) (xs : List Frames) → RiseApart from xs until → RiseApart from (clear_of r xs) until
rise_filter from until r [] h = h
rise_filter from until r (x ∷ xs) h =
    let rest = rise_filter (x.lo + x.len) until r xs h.2 in
    cond_both (not (meets r x)) (x ∷ clear_of r xs) (clear_of r xs) (λ ys. RiseApart from ys until)
    (λ e. (h.0, h.1, rest))
    (λ e. rise_lower from (x.lo + x.len) until (clear_of r xs) (omega (arith, h.0)) rest)

pub length-insert_rising : (r : Frames) (xs : List Frames) → length (insert_rising r xs) ≡ length xs + 1
length-insert_rising r [] = refl
length-insert_rising r (x ∷ xs) =
    let rest = length-insert_rising r xs in
    cond_both (nat_lt r.lo x.lo) (r ∷ x ∷ xs) (x ∷ insert_rising r xs) (λ ys. length ys ≡ length (x ∷ xs) + 1) (λ e. omega arith) (λ e. omega arith)

-- The refusals.

pub from_to-is : (lo hi : ℕ) → lo ≤ hi → from_to lo hi ≡ record { lo = lo; len = hi - lo + 1 }
from_to-is lo hi le = let len : hi + 1 - lo ≡ hi - lo + 1 = omega arith in rw len refl

not_bad : (s : Space) (lo hi : ℕ) → lo ≤ hi → s.bounds.start ≤ lo → hi ≤ s.bounds.last → (nat_lt hi lo || nat_lt lo s.bounds.start || nat_lt s.bounds.last hi) ≡ false
not_bad s lo hi order start last = grind (arith, nat_tests)

pub refused_full : (s : Space) (lo hi : ℕ) → lo ≤ hi → s.bounds.start ≤ lo → hi ≤ s.bounds.last → list_any (meets (from_to lo hi)) s.inserted ≡ false → 64 ≤ length (clear_of (from_to lo hi) s.windows)
    → reserve_refusal s lo hi ≡ Some refusal.WindowsFull
refused_full s lo hi order start last clear full =
    let long : length (windows_with (from_to lo hi) s.windows) ≡ length (clear_of (from_to lo hi) s.windows) + 1 = length-insert_rising (union (from_to lo hi) s.windows) (clear_of (from_to lo hi) s.windows) in
    let test : nat_lt 64 (length (windows_with (from_to lo hi) s.windows)) ≡ true = rw long (grind (arith, nat_tests)) in
    rw (not_bad s lo hi order start last, clear, test) refl

pub not_refused : (s : Space) (lo hi : ℕ) → lo ≤ hi → s.bounds.start ≤ lo → hi ≤ s.bounds.last → list_any (meets (from_to lo hi)) s.inserted ≡ false → length (clear_of (from_to lo hi) s.windows) < 64
    → reserve_refusal s lo hi ≡ None
not_refused s lo hi order start last clear few =
    let long : length (windows_with (from_to lo hi) s.windows) ≡ length (clear_of (from_to lo hi) s.windows) + 1 = length-insert_rising (union (from_to lo hi) s.windows) (clear_of (from_to lo hi) s.windows) in
    let test : nat_lt 64 (length (windows_with (from_to lo hi) s.windows)) ≡ false = rw long (grind (arith, nat_tests)) in
    rw (not_bad s lo hi order start last, clear, test) refl

-- What is known of a window that is neither out of range nor taken.
pub record IsAsked (s : Space) (lo hi : ℕ) (asked : Frames) : Type 0 where
  pub order : lo ≤ hi
  pub start : s.bounds.start ≤ lo
  pub last : hi ≤ s.bounds.last
  pub frames : asked ≡ from_to lo hi
  pub clear : list_any (meets asked) s.inserted ≡ false

pub asked_full : (s : Space) (lo hi : ℕ) (asked : Frames) (slice : List Frames) (count : ℕ) → IsAsked s lo hi asked → slice ≡ s.windows → count ≡ length (clear_of asked slice) → 64 ≤ count → reserve_refusal s lo hi ≡ Some refusal.WindowsFull
asked_full s lo hi asked slice count h is counted full =
    refused_full s lo hi h.order h.start h.last (rw h.frames at h.clear) (rw (counted, is, h.frames) at full)

pub asked_few : (s : Space) (lo hi : ℕ) (asked : Frames) (slice : List Frames) (count : ℕ) → IsAsked s lo hi asked → slice ≡ s.windows → count ≡ length (clear_of asked slice) → count < 64 → reserve_refusal s lo hi ≡ None
asked_few s lo hi asked slice count h is counted few =
    not_refused s lo hi h.order h.start h.last (rw h.frames at h.clear) (rw (counted, is, h.frames) at few)

-- The new list.
