-- The frames of a ring's entries, and what a drain takes out of a ring whose oldest entry has to wait.
use Rattle.std.proofs.Common.{ℕ, ◌≡◌, ◌+◌, ◌-◌, ◌*◌, ◌≤◌, ◌<◌, zero, suc, take, drop, subst, ◌∙◌, length-drop, List, [], ◌∷◌, length, Some, slice_get, refl, arith}
use Rattle.std.specs.List.{AllByRecursion}
use Rattle.std.proofs.lemmas.List.Sums.{sum_by-cons, sum_by-take-drop}
use Rattle.std.proofs.lemmas.Bool.Decides.{nat_tests}
use Rattle.iova_model.specs.declared.entry.Entry.{Entry}
use Rattle.iova_model.specs.Flushes.{flushed_front, unflushed_rest}
use Rattle.iova_model.specs.Valid.{IsRequestSizedEntry}
use Rattle.iova_flush.specs.Rings.{frame_count, oldest_count, OldestWaits, IsRingKept}

pub frame_count-cons : (e : Entry) (es : List Entry) → frame_count (e ∷ es) ≡ e.len + frame_count es
frame_count-cons e es = sum_by-cons (λ (e : Entry). e.len) e es

frame_count-le-length : (es : List Entry) → AllByRecursion IsRequestSizedEntry es → frame_count es ≤ length es * 1048576
frame_count-le-length [] sized = omega arith
frame_count-le-length (e ∷ es) sized = omega (arith, frame_count-cons e es, frame_count-le-length es sized.1, sized.0)

-- 255 entries of at most 2^20 frames
pub frames_bound : {slots frames oldest : ℕ} {es : List Entry} → IsRingKept slots frames oldest es → frames ≤ 267386880
frames_bound {es = es} h = omega (arith, frame_count-le-length es h.sized, h.room, h.counted)

pub oldest_within : {slots frames oldest : ℕ} {es : List Entry} (e : Entry) → IsRingKept slots frames oldest es → Some e ≡ slice_get es 0 → e.len ≤ frames
oldest_within {es = []} e h is = absurd cc
oldest_within {es = x ∷ es} e h is =
    let same : e ≡ x = cc in
    rw same (omega (arith, frame_count-cons x es, h.counted))

pub flushed-waits : (finish : ℕ) (es : List Entry) → OldestWaits finish es → flushed_front finish es ≡ []
flushed-waits finish [] waits = refl
flushed-waits finish (e ∷ es) waits = grind (arith, nat_tests)

pub unflushed-waits : (finish : ℕ) (es : List Entry) → OldestWaits finish es → unflushed_rest finish es ≡ es
unflushed-waits finish [] waits = refl
unflushed-waits finish (e ∷ es) waits = grind (arith, nat_tests)

-- the count that is kept tells whether the oldest entry waits
from_oldest : (finish oldest : ℕ) (es : List Entry) → oldest ≡ oldest_count es → finish ≤ oldest → OldestWaits finish es
from_oldest finish oldest [] is le = tt
from_oldest finish oldest (e ∷ es) is le = omega (arith, is)

to_oldest : (finish oldest : ℕ) (es : List Entry) → oldest ≡ oldest_count es → finish < 18446744073709551616 → OldestWaits finish es → finish ≤ oldest
to_oldest finish oldest [] is fits waits = omega (arith, is)
to_oldest finish oldest (e ∷ es) is fits waits = omega (arith, is)

pub oldest-waits : {slots frames oldest : ℕ} {es seen : List Entry} (finish : ℕ) → IsRingKept slots frames oldest es → es ≡ seen → finish ≤ oldest → OldestWaits finish seen
oldest-waits {oldest = oldest} {es = es} finish h same le = subst (OldestWaits finish) same (from_oldest finish oldest es h.first le)

pub waits-oldest : {slots frames oldest : ℕ} {es seen : List Entry} (finish : ℕ) → finish < 18446744073709551616 → IsRingKept slots frames oldest es → es ≡ seen
    → OldestWaits finish seen → finish ≤ oldest
waits-oldest {oldest = oldest} {es = es} {seen = seen} finish fits h same waits = to_oldest finish oldest seen (subst (λ l. oldest ≡ oldest_count l) same h.first) fits waits

sized-drop : (count : ℕ) (es : List Entry) → AllByRecursion IsRequestSizedEntry es → AllByRecursion IsRequestSizedEntry (drop count es)
sized-drop zero es sized = sized
sized-drop (suc count) [] sized = sized
sized-drop (suc count) (e ∷ es) sized = sized-drop count es sized.1

-- so many entries fewer, and their frames
pub drop-kept : {slots frames oldest : ℕ} {es : List Entry} (count taken first capacity : ℕ) (left : List Entry) → IsRingKept slots frames oldest es
    → capacity ≡ slots → left ≡ drop count es → taken ≡ frame_count (take count es) → first ≡ oldest_count left
    → IsRingKept capacity (frames - taken) first left
drop-kept {es = es} count taken first capacity left h same is_left is_taken is_first = record {
  capacity = same ∙ h.capacity;
  room = rw is_left (omega (arith, h.room, length-drop count es));
  sized = rw is_left (sized-drop count es h.sized);
  counted = rw is_left (omega (arith, h.counted, is_taken, sum_by-take-drop (λ (e : Entry). e.len) es count));
  first = is_first;
}
