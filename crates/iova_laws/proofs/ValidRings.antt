-- The rings keep their limits.
use Rattle.std.proofs.Common.{ℕ, ◌≡◌, ◌+◌, ◌<◌, ◌≤◌, Bool, true, false, List, [], ◌∷◌, ◌++◌, length, refl, arith, length-append}
use Rattle.std.specs.Prelude.{nat_lt}
use Rattle.std.specs.List.{AllByRecursion}
use Rattle.iova_model.specs.declared.entry.Entry.{Entry}
use Rattle.iova_model.specs.Flushes.{unflushed_rest, CountsRise}
use Rattle.iova_model.specs.Valid.{IsRequestSizedEntry, IsRing}
use Rattle.iova_laws.proofs.ValidLists.{all-push}

-- counts from one on are from a smaller one on
counts_from : (low high : ℕ) (es : List Entry) (top : ℕ) → low ≤ high → CountsRise high es top → CountsRise low es top
counts_from low high [] top le h = omega arith
counts_from low high (e ∷ es) top le h = (omega (arith, h.0), h.1)

-- counts up to one are up to a greater one
counts_to : (low : ℕ) (es : List Entry) (top top' : ℕ) → top ≤ top' → CountsRise low es top → CountsRise low es top'
counts_to low [] top top' le h = omega arith
counts_to low (e ∷ es) top top' le h = (h.0, counts_to e.count es top top' le h.1)

-- a ring at a later start count
pub later_ring : (start : ℕ) (es : List Entry) → IsRing start es → IsRing (start + 1) es
later_ring start es h = record { room = h.room; rising = counts_to 0 es start (start + 1) (omega arith) h.rising; sized = h.sized }

-- A drain.

-- the counts that stay don't fall
counts-unflushed : (finish low : ℕ) (es : List Entry) (top : ℕ) → CountsRise low es top → CountsRise low (unflushed_rest finish es) top
counts-unflushed finish low [] top h = h
counts-unflushed finish low (e ∷ es) top h =
    unflushed_step (counts-unflushed finish e.count es top h.1) (nat_lt e.count finish) refl
  where
    unflushed_step : CountsRise e.count (unflushed_rest finish es) top → (b : Bool) → nat_lt e.count finish ≡ b → CountsRise low (unflushed_rest finish (e ∷ es)) top
    unflushed_step more true is = rw is (counts_from low e.count (unflushed_rest finish es) top (omega (arith, h.0)) more)
    unflushed_step more false is = rw is h

-- there are no more entries
length_unflushed_le : (finish : ℕ) (es : List Entry) → length (unflushed_rest finish es) ≤ length es
length_unflushed_le finish [] = omega arith
length_unflushed_le finish (e ∷ es) = unflushed_step (length_unflushed_le finish es) (nat_lt e.count finish) refl
  where
    unflushed_step : length (unflushed_rest finish es) ≤ length es → (b : Bool) → nat_lt e.count finish ≡ b → length (unflushed_rest finish (e ∷ es)) ≤ length (e ∷ es)
    unflushed_step more true is = rw is (omega arith)
    unflushed_step more false is = rw is (omega arith)

-- what held of all holds of those that stay
all-unflushed : (P : Entry → Type 0) (finish : ℕ) (es : List Entry) → AllByRecursion P es → AllByRecursion P (unflushed_rest finish es)
all-unflushed P finish [] all = tt
all-unflushed P finish (e ∷ es) all = unflushed_step (all-unflushed P finish es all.1) (nat_lt e.count finish) refl
  where
    unflushed_step : AllByRecursion P (unflushed_rest finish es) → (b : Bool) → nat_lt e.count finish ≡ b → AllByRecursion P (unflushed_rest finish (e ∷ es))
    unflushed_step more true is = rw is more
    unflushed_step more false is = rw is all

-- a ring after a drain
pub unflushed_valid : (start finish : ℕ) (es : List Entry) → IsRing start es → IsRing start (unflushed_rest finish es)
unflushed_valid start finish es h = record {
  room = omega (arith, length_unflushed_le finish es, h.room);
  rising = counts-unflushed finish 0 es start h.rising;
  sized = all-unflushed IsRequestSizedEntry finish es h.sized;
}

-- A range is queued, with the start count.

-- the greatest count comes last
counts-push : (low : ℕ) (es : List Entry) (top : ℕ) (e : Entry) → e.count ≡ top → CountsRise low es top → CountsRise low (es ++ e ∷ []) top
counts-push low [] top e is h = (omega arith, omega arith)
counts-push low (x ∷ xs) top e is h = (h.0, counts-push x.count xs top e is h.1)

-- a ring with one more range
pub pushed_valid : (start : ℕ) (es : List Entry) (e : Entry) → e.count ≡ start → IsRequestSizedEntry e → length es < 255 → IsRing start es → IsRing start (es ++ e ∷ [])
pushed_valid start es e is sized room h = record {
  room = omega (arith, length-append es (e ∷ []));
  rising = counts-push 0 es start e is h.rising;
  sized = all-push IsRequestSizedEntry es e sized h.sized;
}
