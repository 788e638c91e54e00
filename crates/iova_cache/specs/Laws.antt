-- What holds of a cache for every list of what is done with it, in the definitions of its calls.
use Rattle.std.specs.Prelude.{ℕ, ◌≡◌, ◌+◌, ◌<◌, ◌⊎◌, List, [], ◌∷◌, ◌++◌, length, sum_by, slice_get, Some}
use Rattle.iova_range.specs.declared.limits.TheConstants.{ORDERS}
use Rattle.iova_range.specs.Frames.{Frames}
use Rattle.iova_model.specs.declared.entry.Entry.{Entry}
use Rattle.iova_model.specs.State.{State}
use Rattle.iova_cache.specs.Caches.{CacheState, HasMoreRoom, IsMet, IsGivenUp, IsSettled, ranges_of}
use Rattle.iova_cache.specs.Exchanges.{IsAsked, IsReturned, IsRefilled, IsSpilled}
use Rattle.iova_cache.specs.Apart.{IsPutIn, IsTakenOut, IsKept, IsReleased}

-- What is done with a cache. A call that is refused leaves it as it is, but for room that was made.
pub data Act : Type 0 where
  Gives : (order limit : ℕ) (r : Frames) → Act
  TakesBack : (r : Frames) (count : ℕ) → Act
  Settles : (newest count : ℕ) → Act
  Refills : (s t : State) (frames limit most count : ℕ) → Act
  Spills : (s t : State) (order most count : ℕ) → Act
  Asks : (s t : State) (frames limit : ℕ) (r : Frames) → Act
  Returns : (s t : State) (lo : ℕ) (r : Frames) → Act
  Puts : (order : ℕ) (r : Frames) → Act
  Takes : (order : ℕ) (r : Frames) → Act
  Keeps : (r : Frames) → Act
  Releases : (lo : ℕ) (r : Frames) → Act
  Grows : Act
  Refuses : Act

-- An act makes one state of a cache into another; these ranges come into the cache by it, and these
-- go out of it.
abbrev pub Does : Act → CacheState → List Frames → List Frames → CacheState → Type 0
Does (Gives order limit r) old came went new =
    IsMet old new order limit r × ((came ≡ []) × (went ≡ []))
Does (TakesBack r count) old came went new =
    IsGivenUp old new r count × ((came ≡ []) × (went ≡ []))
Does (Settles newest count) old came went new =
    IsSettled old new newest count × ((came ≡ []) × (went ≡ []))
Does (Refills s t frames limit most count) old came went new =
    (h : IsRefilled old new s t frames limit most count) × ((came ≡ h.got) × (went ≡ []))
Does (Spills s t order most count) old came went new =
    (order < ORDERS) × ((h : IsSpilled old new s t order most count)
    × ((came ≡ []) × (went ≡ h.out)))
Does (Asks s t frames limit r) old came went new =
    IsAsked old new s t frames limit r × ((came ≡ r ∷ []) × (went ≡ []))
Does (Returns s t lo r) old came went new =
    (r.lo ≡ lo) × (IsReturned old new s t lo r × ((came ≡ []) × (went ≡ r ∷ [])))
Does (Puts order r) old came went new =
    (order < ORDERS) × (IsPutIn old new order r × ((came ≡ r ∷ []) × (went ≡ [])))
Does (Takes order r) old came went new =
    IsTakenOut old new order r × ((came ≡ []) × (went ≡ r ∷ []))
Does (Keeps r) old came went new = IsKept old new r × ((came ≡ r ∷ []) × (went ≡ []))
Does (Releases lo r) old came went new = IsReleased old new lo r × ((came ≡ []) × (went ≡ r ∷ []))
Does Grows old came went new = HasMoreRoom old new × ((came ≡ []) × (went ≡ []))
Does Refuses old came went new = (new ≡ old) × ((came ≡ []) × (went ≡ []))

-- Several acts, one after another, and all that came and went by them.
abbrev pub Runs : List Act → CacheState → List Frames → List Frames → CacheState → Type 0
Runs [] old came went new = (new ≡ old) × ((came ≡ []) × (went ≡ []))
Runs (a ∷ acts) old came went new =
    (m : CacheState) × ((c1 : List Frames) × ((c2 : List Frames) × ((w1 : List Frames)
    × ((w2 : List Frames) × (Does a old c1 w1 m × (Runs acts m c2 w2 new
    × ((came ≡ c1 ++ c2) × (went ≡ w1 ++ w2))))))))

-- the magazines are six
abbrev pub IsWhole : CacheState → Type 0
IsWhole c = length c.magazines ≡ ORDERS

-- No range is lost and none is made: whatever ranges weigh, what a cache has and what went out of
-- it are what it had and what came into it.
abbrev pub RangesAreKept : Type 0
RangesAreKept =
    (acts : List Act) (old new : CacheState) (came went : List Frames) → IsWhole old
    → Runs acts old came went new → IsWhole new × ((weigh : Frames → ℕ)
    → sum_by weigh (ranges_of new) + sum_by weigh went
    ≡ sum_by weigh (ranges_of old) + sum_by weigh came)

-- One of the acts settles with a greater number than this.
abbrev pub IsSettledAbove : ℕ → List Act → Type 0
IsSettledAbove count [] = ⊥
IsSettledAbove count (Settles newest n ∷ acts) = (count < newest) ⊎ IsSettledAbove count acts
IsSettledAbove count (Gives order limit r ∷ acts) = IsSettledAbove count acts
IsSettledAbove count (TakesBack r n ∷ acts) = IsSettledAbove count acts
IsSettledAbove count (Refills s t frames limit most n ∷ acts) = IsSettledAbove count acts
IsSettledAbove count (Spills s t order most n ∷ acts) = IsSettledAbove count acts
IsSettledAbove count (Asks s t frames limit r ∷ acts) = IsSettledAbove count acts
IsSettledAbove count (Returns s t lo r ∷ acts) = IsSettledAbove count acts
IsSettledAbove count (Puts order r ∷ acts) = IsSettledAbove count acts
IsSettledAbove count (Takes order r ∷ acts) = IsSettledAbove count acts
IsSettledAbove count (Keeps r ∷ acts) = IsSettledAbove count acts
IsSettledAbove count (Releases lo r ∷ acts) = IsSettledAbove count acts
IsSettledAbove count (Grows ∷ acts) = IsSettledAbove count acts
IsSettledAbove count (Refuses ∷ acts) = IsSettledAbove count acts

-- What waits in the ring stays there until the cache learns of a flush that ended well and has a
-- greater number than the last one that had begun when it was given up.
abbrev pub EntriesWait : Type 0
EntriesWait =
    (acts : List Act) (old new : CacheState) (came went : List Frames) (i : ℕ) (e : Entry)
    → Runs acts old came went new → slice_get old.ring i ≡ Some e
    → ((j : ℕ) × (slice_get new.ring j ≡ Some e)) ⊎ IsSettledAbove e.count acts
