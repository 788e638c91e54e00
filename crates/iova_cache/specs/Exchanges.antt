-- What a cache and its domain exchange, in one call that has both.
use Rattle.std.specs.Prelude.{ℕ, ◌≡◌, ◌-◌, ◌<◌, ◌≤◌, ◌⊎◌, false, List, [], ◌∷◌, ◌++◌, length, min}
use Rattle.iova_range.specs.declared.limits.TheConstants.{MAX_FRAMES, MOST_CACHED}
use Rattle.iova_range.specs.declared.refusal.Refusal.{Refusal}
use Rattle.iova_range.specs.declared.refusal.Refusal.TheVariants as refusal
use Rattle.iova_range.specs.Frames.{Frames}
use Rattle.iova_model.specs.declared.step.Step.{Step}
use Rattle.iova_model.specs.declared.step.Step.TheVariants as step
use Rattle.iova_model.specs.declared.step.Reply.TheVariants as reply
use Rattle.iova_model.specs.State.{State}
use Rattle.iova_core.specs.Domain.{IsStepOf}
use Rattle.iova_cache.specs.declared.exchange.TheConstants.{AT_ONCE}
use Rattle.iova_cache.specs.declared.magazine.TheConstants.{MAGAZINE}
use Rattle.iova_cache.specs.Held.{Gains}
use Rattle.iova_cache.specs.Magazines.{magazine_of, with_magazine}
use Rattle.iova_cache.specs.Caches.{CacheState, HasOrder, IsSameClient, Same}

-- the steps that a cache asks of its domain, all of them its client's
abbrev pub request : CacheState → ℕ → ℕ → Step
request c frames limit = step.Alloc c.worker c.client frames limit

abbrev pub giving_up : CacheState → ℕ → Step
giving_up c lo = step.Unmap c.worker c.client lo

-- The domain has given the range, and the user has it.
pub record IsAsked (old new : CacheState) (s t : State) (frames limit : ℕ) (r : Frames)
    : Type 0 where
  pub step : IsStepOf s (request old frames limit) (reply.Given r) t
  pub held : Gains r old.held new.held
  pub magazines : new.magazines ≡ old.magazines
  pub ring : new.ring ≡ old.ring
  pub client : IsSameClient old new

-- what the cache refuses a request for before it asks the domain
abbrev pub IsOwnRefusal : CacheState → ℕ → Refusal → Type 0
IsOwnRefusal c frames refusal.Zero = frames ≡ 0
IsOwnRefusal c frames refusal.TooBig = MAX_FRAMES < frames
IsOwnRefusal c frames refusal.NoMemory = c.room ≡ false
IsOwnRefusal c frames x = ⊥

-- The domain has refused this step, and the cache has what it had.
pub record IsDenied (old new : CacheState) (s t : State) (asked : Step) (x : Refusal) : Type 0 where
  pub step : IsStepOf s asked (reply.Refused x) t
  pub held : Same old.held new.held
  pub magazines : new.magazines ≡ old.magazines
  pub ring : new.ring ≡ old.ring
  pub client : IsSameClient old new

-- The user has given the range up that begins there, and it waits in the domain's ring.
pub record IsReturned (old new : CacheState) (s t : State) (lo : ℕ) (r : Frames) : Type 0 where
  pub step : (queued : Frames) × IsStepOf s (giving_up old lo) (reply.Queued queued) t
  pub held : Gains r new.held old.held
  pub magazines : new.magazines ≡ old.magazines
  pub ring : new.ring ≡ old.ring
  pub client : IsSameClient old new

-- Several ranges in one call.

-- The domain gives these ranges for requests of this client, one step after another.
abbrev pub Gives : Step → State → List Frames → State → Type 0
Gives asked s [] t = t ≡ s
Gives asked s (r ∷ rs) t =
    (m : State) × IsStepOf s asked (reply.Given r) m × Gives asked m rs t

-- How many ranges are asked for: as many as the caller wants, 64, and what there is room for.
abbrev pub wanted : ℕ → ℕ → ℕ
wanted most room = min (min most AT_ONCE) room

-- The last step of several has ended them: there are as many as were wanted; or, behind one at
-- least, the domain has refused the next one.
abbrev pub Ends : ℕ → ℕ → State → Step → State → Type 0
Ends count all m asked t =
    ((count ≡ all) × (t ≡ m))
    ⊎ ((1 ≤ count) × ((x : Refusal) × IsStepOf m asked (reply.Refused x) t))

-- So many ranges of the domain have come into the magazine of an order, each by a step.
pub record IsRefilled (old new : CacheState) (s t : State) (frames limit most count : ℕ)
    : Type 0 where
  pub order : ℕ
  pub has : HasOrder frames order
  pub got : List Frames
  pub counted : count ≡ length got
  pub middle : State
  pub steps : Gives (request old frames limit) s got middle
  pub ends : Ends count (wanted most (MAGAZINE - length (magazine_of old.magazines order))) middle
      (request old frames limit) t
  pub magazines : new.magazines
      ≡ with_magazine old.magazines order (magazine_of old.magazines order ++ got)
  pub held : new.held ≡ old.held
  pub ring : new.ring ≡ old.ring
  pub client : IsSameClient old new

-- what a refill is refused for before the domain is asked
abbrev pub IsRefillRefusal : ℕ → Refusal → Type 0
IsRefillRefusal frames refusal.Zero = frames ≡ 0
IsRefillRefusal frames refusal.TooBig = MOST_CACHED < frames
IsRefillRefusal frames x = ⊥

-- These ranges of a client go back to the domain, the last one first, one step after another.
abbrev pub Returns : CacheState → State → List Frames → State → Type 0
Returns c s [] t = t ≡ s
Returns c s (r ∷ rs) t =
    (m : State) × Returns c s rs m
    × ((queued : Frames) × IsStepOf m (giving_up c r.lo) (reply.Queued queued) t)

-- The last one of several has been given back: there are as many as were wanted; or, behind one at
-- least, the domain has refused the next one, which is the newest that is left.
abbrev pub StopsAt : CacheState → ℕ → ℕ → List Frames → State → State → Type 0
StopsAt c count all left m t =
    ((count ≡ all) × (t ≡ m))
    ⊎ ((1 ≤ count) × ((rest : List Frames) × ((r : Frames) × (left ≡ rest ++ r ∷ [])
    × ((x : Refusal) × IsStepOf m (giving_up c r.lo) (reply.Refused x) t))))

-- So many of the newest ranges of an order have gone from its magazine to the domain's ring, each
-- by a step.
pub record IsSpilled (old new : CacheState) (s t : State) (order most count : ℕ) : Type 0 where
  pub out : List Frames
  pub left : List Frames
  pub counted : count ≡ length out
  pub magazine : magazine_of old.magazines order ≡ left ++ out
  pub middle : State
  pub steps : Returns old s out middle
  pub ends : StopsAt old count (wanted most (length (magazine_of old.magazines order))) left middle
      t
  pub magazines : new.magazines ≡ with_magazine old.magazines order left
  pub held : new.held ≡ old.held
  pub ring : new.ring ≡ old.ring
  pub client : IsSameClient old new

-- The domain has refused the newest range of an order, and the cache is as it was.
pub record IsUnspilled (c : CacheState) (s t : State) (order : ℕ) (x : Refusal) : Type 0 where
  pub rest : List Frames
  pub range : Frames
  pub newest : magazine_of c.magazines order ≡ rest ++ range ∷ []
  pub step : IsStepOf s (giving_up c range.lo) (reply.Refused x) t
