-- The slots of a ring, as entries come in and leave.
use Rattle.std.proofs.Common.{◌≡◌, ◌≢◌, ◌+◌, ◌-◌, ◌%◌, ◌<◌, ◌≤◌, ℕ, zero, suc, List, [], ◌∷◌, ◌++◌, length, get_or, set, drop, refl, sym, ap, ◌∙◌, arith}
use Rattle.std.specs.List.{AllByRecursion}
use Rattle.std.proofs.lemmas.List.{length-set, get_or-set_same, get_or-set_other}
use Rattle.iova_model.specs.declared.entry.Entry.{Entry}
use Rattle.iova_cache.specs.Waiting.{IsCachedEntry, no_entry, window, IsRing}

pub length_window : (slots : List Entry) (head count : ℕ) → length (window slots head count) ≡ count
length_window slots head zero = refl
length_window slots head (suc n) = ap suc (length_window slots (head + 1) n)

-- only where the first slot is, counted around, tells
around : (slots : List Entry) (head other count : ℕ) → head % 256 ≡ other % 256 → window slots head count ≡ window slots other count
around slots head other zero same = refl
around slots head other (suc n) same =
    let next : (head + 1) % 256 ≡ (other + 1) % 256 = omega (arith, same) in
    rw (same, around slots (head + 1) (other + 1) n next) refl

-- a write beyond the window
beyond : (slots : List Entry) (head at count : ℕ) (e : Entry) → length slots ≡ 256 → at < 256 → ((k : ℕ) → k < count → (head + k) % 256 ≢ at) → window (set slots at e) head count ≡ window slots head count
beyond slots head at zero e room lt other = refl
beyond slots head at (suc n) e room lt other =
    let first : head % 256 ≢ at = let h = other 0 (omega arith) in let e : head + 0 ≡ head = omega arith in rw e at h in
    let rest = beyond slots (head + 1) at n e room lt (λ k lt is. other (suc k) (omega arith) (let s : head + suc k ≡ (head + 1) + k = omega arith in rw s is)) in
    let here : get_or (set slots at e) (head % 256) no_entry ≡ get_or slots (head % 256) no_entry = get_or-set_other slots at (head % 256) e no_entry first in
    rw (here, rest) refl

window_more : (slots : List Entry) (head n : ℕ) → window slots head (suc n) ≡ window slots head n ++ get_or slots ((head + n) % 256) no_entry ∷ []
window_more slots head zero = let e : head + 0 ≡ head = omega arith in rw e refl
window_more slots head (suc n) =
    let e : head + suc n ≡ (head + 1) + n = omega arith in
    rw e (ap (λ es. get_or slots (head % 256) no_entry ∷ es) (window_more slots (head + 1) n))

pub added : (slots : List Entry) (head count : ℕ) (e : Entry) → length slots ≡ 256 → count < 256 → window (set slots ((head + count) % 256) e) head (count + 1) ≡ window slots head count ++ e ∷ []
added slots head count e room lt =
    let at = (head + count) % 256 in
    let within : at < 256 = omega arith in
    let others : (k : ℕ) → k < count → (head + k) % 256 ≢ at = λ k below is. absurd (omega (arith, is)) in
    let last : get_or (set slots at e) at no_entry ≡ e = get_or-set_same slots at e no_entry (omega arith) in
    let one : count + 1 ≡ suc count = omega arith in
    ap (λ n. window (set slots at e) head n) one
    ∙ (window_more (set slots at e) head count
    ∙ (ap (λ x. window (set slots at e) head count ++ x ∷ []) last ∙ ap (λ es. es ++ e ∷ []) (beyond slots head at count e room within others)))

pub entry_at : (slots : List Entry) (head count k : ℕ) (e : Entry) → k < count → get_or (window slots head count) k e ≡ get_or slots ((head + k) % 256) no_entry
entry_at slots head zero k e lt = absurd (omega arith)
entry_at slots head (suc n) zero e lt = let h : head + 0 ≡ head = omega arith in rw h refl
entry_at slots head (suc n) (suc k) e lt = let h : head + suc k ≡ (head + 1) + k = omega arith in rw h (entry_at slots (head + 1) n k e (omega arith))

later : (slots : List Entry) (head count gone : ℕ) → gone ≤ count → drop gone (window slots head count) ≡ window slots (head + gone) (count - gone)
later slots head count zero le = let h : head + 0 ≡ head = omega arith in let k : count - 0 ≡ count = omega arith in rw (h, k) refl
later slots head zero (suc gone) le = absurd (omega arith)
later slots head (suc n) (suc gone) le = let h : head + suc gone ≡ (head + 1) + gone = omega arith in let k : suc n - suc gone ≡ n - gone = omega arith in rw (h, k) (later slots (head + 1) n gone (omega arith))

pub dropped : (slots : List Entry) (head count gone : ℕ) → gone ≤ count → window slots ((head + gone) % 256) (count - gone) ≡ drop gone (window slots head count)
dropped slots head count gone le =
    sym (later slots head count gone le ∙ around slots (head + gone) ((head + gone) % 256) (count - gone) (omega arith))

cached_more : (es : List Entry) (e : Entry) → AllByRecursion IsCachedEntry es → IsCachedEntry e → AllByRecursion IsCachedEntry (es ++ e ∷ [])
cached_more [] e all one = (one, tt)
cached_more (x ∷ es) e all one = (all.0, cached_more es e all.1 one)

cached_drop : (n : ℕ) (es : List Entry) → AllByRecursion IsCachedEntry es → AllByRecursion IsCachedEntry (drop n es)
cached_drop zero es all = all
cached_drop (suc n) [] all = all
cached_drop (suc n) (e ∷ es) all = cached_drop n es all.1

pub cached_at : (k : ℕ) (es : List Entry) (e : Entry) → AllByRecursion IsCachedEntry es → k < length es → e ≡ get_or es k e → IsCachedEntry e
cached_at k [] e all lt is = absurd (omega arith)
cached_at zero (x ∷ es) e all lt is = rw is all.0
cached_at (suc k) (x ∷ es) e all lt is = cached_at k es e all.1 (omega arith) is

pub ring_added : (slots : List Entry) (head count : ℕ) (e : Entry) → IsRing slots head count → count < 255 → IsCachedEntry e → IsRing (set slots ((head + count) % 256) e) head (count + 1)
ring_added slots head count e r lt one = record {
  room = length-set slots ((head + count) % 256) e ∙ r.room;
  begins = r.begins;
  few = omega arith;
  cached = rw (added slots head count e r.room (omega arith)) (cached_more (window slots head count) e r.cached one);
}

pub ring_dropped : (slots : List Entry) (head count gone : ℕ) → IsRing slots head count → gone ≤ count → IsRing slots ((head + gone) % 256) (count - gone)
ring_dropped slots head count gone r le = record {
  room = r.room;
  begins = omega arith;
  few = omega (arith, r.few);
  cached = rw (dropped slots head count gone le) (cached_drop gone (window slots head count) r.cached);
}
