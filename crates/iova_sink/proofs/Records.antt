-- Puts one after another, and the last call of a list.
use Rattle.std.proofs.Common.{ℕ, ◌≡◌, ◌+◌, ◌-◌, List, [], ◌∷◌, ◌++◌, Bool, true, false, Option, Result, length, take, drop, refl, sym, ap, ◌∙◌, subst, arith, take-append-drop, length-drop}
use Rattle.std.proofs.lemmas.List.{take-take, drop-take, take_all}
use Rattle.std.proofs.KnownBytes.{Appends-trans}
use Rattle.std.specs.Io.KnownBytes.{Appends}
use mathlib.Core.Bool.{not}
use Rattle.std.specs.Prelude.{if◌then◌else◌}
use Rattle.iova_range.specs.Frames.{Frames}
use Rattle.iova_sink.specs.declared.sink.SinkFault.{SinkFault}
use Rattle.iova_sink.specs.Calls.{Call, Invalidation, Gone, last_failed_or, is_last_failed}

pub take_plus : (bs : List ℕ) (i n : ℕ) → take (i + n) bs ≡ take i bs ++ take n (drop i bs)
take_plus bs i n =
    let front : take i (take (i + n) bs) ≡ take i bs = take-take i (i + n) bs (omega arith) in
    let back : drop i (take (i + n) bs) ≡ take n (drop i bs) = drop-take i n bs in
    sym (take-append-drop i (take (i + n) bs)) ∙ (ap (λ (x : List ℕ). x ++ drop i (take (i + n) bs)) front ∙ ap (λ (x : List ℕ). take i bs ++ x) back)

-- all that is left after a place
pub rest_of : (bs : List ℕ) (i : ℕ) → take (length bs - i) (drop i bs) ≡ drop i bs
rest_of bs i = take_all (length bs - i) (drop i bs) (omega (arith, length-drop i bs))

-- a put goes on where the last one stopped
pub Appends-more : (a b c : Option (List ℕ)) (bs : List ℕ) (i n : ℕ) → Appends a b (take i bs)
    → Appends b c (take n (take (length bs - i) (drop i bs))) → Appends a c (take (i + n) bs)
Appends-more a b c bs i n p q =
    let P : List ℕ → Type 0 = λ x. Appends a c x in
    let R : List ℕ → Type 0 = λ x. Appends b c (take n x) in
    subst P (sym (take_plus bs i n)) (Appends-trans a b c (take i bs) (take n (drop i bs)) p (subst R (rest_of bs i) q))

-- the last invalidation decides
last_of : (before : Bool) (cs : List Call) (domain number : ℕ) (ok : Bool) → last_failed_or before (cs ++ Invalidation domain number ok ∷ []) ≡ not ok
last_of before [] domain number true = refl
last_of before [] domain number false = refl
last_of before (Invalidation d n o ∷ cs) domain number ok = last_of (if o then false else true) cs domain number ok
last_of before (Gone d c rs o ∷ cs) domain number ok = last_of before cs domain number ok

pub last-added : (cs : List Call) (domain number : ℕ) (ok : Bool) → is_last_failed (cs ++ Invalidation domain number ok ∷ []) ≡ not ok
last-added cs domain number ok = last_of false cs domain number ok

-- and a client that is gone changes nothing
still_of : (before : Bool) (cs : List Call) (domain client : ℕ) (ranges : List Frames) (answer : Result Unit SinkFault)
    → last_failed_or before (cs ++ Gone domain client ranges answer ∷ []) ≡ last_failed_or before cs
still_of before [] domain client ranges answer = refl
still_of before (Invalidation d n o ∷ cs) domain client ranges answer = still_of (if o then false else true) cs domain client ranges answer
still_of before (Gone d c rs a ∷ cs) domain client ranges answer = still_of before cs domain client ranges answer

pub still-failed : (cs : List Call) (domain client : ℕ) (ranges : List Frames) (answer : Result Unit SinkFault) → is_last_failed (cs ++ Gone domain client ranges answer ∷ []) ≡ is_last_failed cs
still-failed cs domain client ranges answer = still_of false cs domain client ranges answer
