-- A frame that was given up is given again behind a flush alone, over a domain and its caches.
use Rattle.std.specs.Prelude.{ℕ, ◌≡◌, ◌≤◌, ◌<◌, true, List, [], ◌∷◌, Some, slice_get}
use Rattle.iova_range.specs.Frames.{covers}
use Rattle.iova_model.specs.declared.step.Step.TheVariants as step
use Rattle.iova_model.specs.declared.step.Reply.TheVariants as reply
use Rattle.iova_model.specs.State.{State}
use Rattle.iova_model.specs.Transcript.{Unmaps}
use Rattle.iova_model.specs.Effects.{Gives as IsGivenBy}
use Rattle.iova_cache.specs.Laws.{Act}
use Rattle.iova_cache.specs.Laws.Act.{Gives, TakesBack, Settles, Asks, Returns}
use Rattle.iova_cache.specs.Worlds.{World, IsWorld, WorldEvent, Happens}
use Rattle.iova_cache.specs.Worlds.WorldEvent.{Acts, Steps}

-- What a cache learns of flushes is true: a range that is given up gets a number that is no smaller
-- than that of the last flush that has begun, and what is settled is settled by the number of a
-- flush that has ended well, or by a smaller one.
abbrev pub IsActTold : Act → State → Type 0
IsActTold (TakesBack r count) s = s.flushes.start ≤ count
IsActTold (Settles newest count) s = newest ≤ s.flushes.newest
IsActTold a s = Unit {0}

abbrev pub IsTold : WorldEvent → State → Type 0
IsTold (Acts before later a old new came went) s = IsActTold a s
IsTold e s = Unit {0}

-- what happens, one after another, where what the caches learn of flushes is true
abbrev pub GoesTold : List WorldEvent → World → World → Type 0
GoesTold [] w v = v ≡ w
GoesTold (e ∷ es) w v =
    (u : World) × (Happens e w u × (IsTold e w.domain × GoesTold es u v))

-- a user gives the frame up: to its cache; by its cache to the domain, in whose ring it waits; or,
-- without a cache, to the domain
abbrev pub IsGivenUpIn : ℕ → Act → Type 0
IsGivenUpIn frame (TakesBack r count) = covers frame r ≡ true
IsGivenUpIn frame (Returns s t lo r) = covers frame r ≡ true
IsGivenUpIn frame a = ⊥

abbrev pub GivesUp : ℕ → WorldEvent → Type 0
GivesUp frame (Acts before later a old new came went) = IsGivenUpIn frame a
GivesUp frame (Steps st r) = Unmaps frame r
GivesUp frame e = ⊥

-- a user is given the frame: by its cache; by its cache from the domain; or, without a cache, by
-- the domain
abbrev pub IsGivenIn : ℕ → Act → Type 0
IsGivenIn frame (Gives order limit r) = covers frame r ≡ true
IsGivenIn frame (Asks s t frames limit r) = covers frame r ≡ true
IsGivenIn frame a = ⊥

abbrev pub GivesTo : ℕ → WorldEvent → Type 0
GivesTo frame (Acts before later a old new came went) = IsGivenIn frame a
GivesTo frame (Steps st r) = IsGivenBy frame r
GivesTo frame e = ⊥

pub record IsGivenUpAt (es : List WorldEvent) (i frame : ℕ) : Type 0 where
  pub event : WorldEvent
  pub is : slice_get es i ≡ Some event
  pub up : GivesUp frame event

pub record IsGivenAt (es : List WorldEvent) (n frame : ℕ) : Type 0 where
  pub event : WorldEvent
  pub is : slice_get es n ≡ Some event
  pub gives : GivesTo frame event

-- a flush began at event b and ended well at event d
pub record IsWholeFlush (es : List WorldEvent) (b d : ℕ) : Type 0 where
  pub number : ℕ
  pub begins : slice_get es b ≡ Some (Steps step.Begin (reply.Begun number))
  pub ends : slice_get es d ≡ Some (Steps (step.End number true) reply.Ended)
  pub order : b < d

-- a whole flush began after event i, and ended well before event n
pub record IsFlushedBetween (es : List WorldEvent) (i n : ℕ) : Type 0 where
  pub began : ℕ
  pub done : ℕ
  pub whole : IsWholeFlush es began done
  pub later : i < began
  pub earlier : done < n

-- A frame that a user gave up is given to a user again, by whichever cache or by the domain, only
-- where a flush that began afterwards has ended well.
abbrev pub ReuseOverCachesIsFlushed : Type 0
ReuseOverCachesIsFlushed =
    (es : List WorldEvent) (w v : World) (i n frame : ℕ) → IsWorld w → GoesTold es w v → i < n
    → IsGivenUpAt es i frame → IsGivenAt es n frame → IsFlushedBetween es i n
