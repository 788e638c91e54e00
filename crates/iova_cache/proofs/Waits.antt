-- What waits in a ring, over several acts.
use Rattle.std.proofs.Common.{◌≡◌, ◌<◌, ◌⊎◌, inl, inr, ℕ, List, [], ◌∷◌, ◌++◌, drop, Some, ap, ◌∙◌}
use Rattle.std.specs.Prelude.{slice_get}
use Rattle.iova_range.specs.Frames.{Frames}
use Rattle.iova_model.specs.declared.entry.Entry.{Entry}
use Rattle.iova_cache.specs.Caches.{CacheState, entry_at}
use Rattle.iova_cache.specs.Laws.{Act, Does, Runs, IsSettledAbove}
use Rattle.iova_cache.specs.Laws.Act.{Gives, TakesBack, Settles, Refills, Spills, Asks, Returns, Puts, Takes, Keeps, Releases, Grows, Refuses}
use Rattle.iova_cache.proofs.Runs.{stays_in, behind}

-- it is there still, or was settled
abbrev Waits : List Act → Entry → CacheState → Type 0
Waits acts e c = ((j : ℕ) × (slice_get c.ring j ≡ Some e)) ⊎ IsSettledAbove e.count acts

same_there : (a b : List Entry) (i : ℕ) (e : Entry) → b ≡ a → slice_get a i ≡ Some e → slice_get b i ≡ Some e
same_there a b i e is at = ap (λ es. slice_get es i) is ∙ at

-- what one act leaves of it
one_waits : (a : Act) (old new : CacheState) (came went : List Frames) (i : ℕ) (e : Entry) → Does a old came went new → slice_get old.ring i ≡ Some e → Waits (a ∷ []) e new
one_waits (Gives order limit r) old new came went i e d is = inl (i, same_there old.ring new.ring i e d.0.ring is)
one_waits (Refills s t frames limit most n) old new came went i e d is = inl (i, same_there old.ring new.ring i e d.0.ring is)
one_waits (Spills s t order most n) old new came went i e d is = inl (i, same_there old.ring new.ring i e d.1.0.ring is)
one_waits (Asks s t frames limit r) old new came went i e d is = inl (i, same_there old.ring new.ring i e d.0.ring is)
one_waits (Returns s t lo r) old new came went i e d is = inl (i, same_there old.ring new.ring i e d.1.0.ring is)
one_waits (Puts order r) old new came went i e d is = inl (i, same_there old.ring new.ring i e d.1.0.ring is)
one_waits (Takes order r) old new came went i e d is = inl (i, same_there old.ring new.ring i e d.0.ring is)
one_waits (Keeps r) old new came went i e d is = inl (i, same_there old.ring new.ring i e d.0.ring is)
one_waits (Releases lo r) old new came went i e d is = inl (i, same_there old.ring new.ring i e d.0.ring is)
one_waits Grows old new came went i e d is = inl (i, same_there old.ring new.ring i e d.0.ring is)
one_waits Refuses old new came went i e d is = inl (i, same_there old.ring new.ring i e (ap (λ (c : CacheState). c.ring) d.0) is)
one_waits (TakesBack r count) old new came went i e d is =
    inl (i, same_there (old.ring ++ entry_at r count ∷ []) new.ring i e d.0.ring (stays_in old.ring (entry_at r count) i e is))
one_waits (Settles newest count) old new came went i e d is = step (behind count old.ring i newest e is d.0.magazines.flushed)
  where
    step : ((j : ℕ) × (slice_get (drop count old.ring) j ≡ Some e)) ⊎ (e.count < newest) → Waits (Settles newest count ∷ []) e new
    step (inl there) = inl (there.0, same_there (drop count old.ring) new.ring there.0 e d.0.ring there.1)
    step (inr above) = inr (inl above)

-- a later act settles it, or the first one does
later : (a : Act) (acts : List Act) (count : ℕ) → IsSettledAbove count acts → IsSettledAbove count (a ∷ acts)
later (Gives order limit r) acts count h = h
later (Refills s t frames limit most n) acts count h = h
later (Spills s t order most n) acts count h = h
later (Asks s t frames limit r) acts count h = h
later (Returns s t lo r) acts count h = h
later (Puts order r) acts count h = h
later (Takes order r) acts count h = h
later (Keeps r) acts count h = h
later (Releases lo r) acts count h = h
later Grows acts count h = h
later Refuses acts count h = h
later (TakesBack r n) acts count h = h
later (Settles newest n) acts count h = inr h

first : (a : Act) (acts : List Act) (count : ℕ) → IsSettledAbove count (a ∷ []) → IsSettledAbove count (a ∷ acts)
first (Gives order limit r) acts count h = absurd h
first (Refills s t frames limit most n) acts count h = absurd h
first (Spills s t order most n) acts count h = absurd h
first (Asks s t frames limit r) acts count h = absurd h
first (Returns s t lo r) acts count h = absurd h
first (Puts order r) acts count h = absurd h
first (Takes order r) acts count h = absurd h
first (Keeps r) acts count h = absurd h
first (Releases lo r) acts count h = absurd h
first Grows acts count h = absurd h
first Refuses acts count h = absurd h
first (TakesBack r n) acts count h = absurd h
first (Settles newest n) acts count (inl h) = inl h
first (Settles newest n) acts count (inr h) = absurd h

pub run_waits : (acts : List Act) (old new : CacheState) (came went : List Frames) (i : ℕ) (e : Entry) → Runs acts old came went new → slice_get old.ring i ≡ Some e → Waits acts e new
run_waits [] old new came went i e r is = inl (i, same_there old.ring new.ring i e (ap (λ (c : CacheState). c.ring) r.0) is)
run_waits (a ∷ acts) old new came went i e r is = step (one_waits a old r.0 r.1.0 r.1.1.1.0 i e r.1.1.1.1.1.0 is) (λ j at. run_waits acts r.0 new r.1.1.0 r.1.1.1.1.0 j e r.1.1.1.1.1.1.0 at)
  where
    onward : Waits acts e new → Waits (a ∷ acts) e new
    onward (inl there) = inl there
    onward (inr above) = inr (later a acts e.count above)

    step : Waits (a ∷ []) e r.0 → ((j : ℕ) → slice_get r.0.ring j ≡ Some e → Waits acts e new) → Waits (a ∷ acts) e new
    step (inl there) rest = onward (rest there.0 there.1)
    step (inr above) rest = inr (first a acts e.count above)
