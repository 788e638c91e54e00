-- A domain with caches of which some break their word.
use Rattle.std.specs.Prelude.{ℕ, ◌≡◌, ◌≤◌, ◌<◌, List, [], ◌∷◌, ◌++◌, sum_by, Some}
use Rattle.iova_model.specs.declared.step.Step.{Step}
use Rattle.iova_model.specs.declared.step.Reply.{Reply}
use Rattle.iova_model.specs.Effects.{client_named}
use Rattle.iova_core.specs.Domain.{IsStepOf}
use Rattle.iova_cache.specs.Caches.{CacheState}
use Rattle.iova_cache.specs.Worlds.{World, IsWorld, WorldEvent, Happens, AreOthers, has_frame, in_use}
use Rattle.iova_cache.specs.Worlds.WorldEvent.{Leaves, Steps}
use Rattle.iova_cache.specs.Reuse.{IsTold, IsGivenUpAt, IsGivenAt, IsFlushedBetween}

-- a domain and its right caches, and the wrong ones beside them
pub record Mixed : Type 0 where
  pub world : World
  pub wrong : List CacheState

-- What is done: what happens by right caches and by anybody else; or a right cache is a wrong one
-- from now on; or a wrong one makes whatever it likes of what it has, and its user is given
-- anything: ranges that wait for a flush, the same one twice, some that it never had; or its client
-- asks the domain for any step of its own.
pub data Deed : Type 0 where
  Rightly : (e : WorldEvent) → Deed
  Turns : (before later : List CacheState) (c : CacheState) → Deed
  Errs : (before later : List CacheState) (old new : CacheState) → Deed
  Asks : (before later : List CacheState) (c : CacheState) (st : Step) (r : Reply) → Deed

-- What right caches learn of flushes is true. A wrong one's client is no right one's.
abbrev pub IsDone : Deed → Mixed → Mixed → Type 0
IsDone (Rightly e) m n =
    Happens e m.world n.world × (IsTold e m.world.domain × (n.wrong ≡ m.wrong))
IsDone (Turns before later c) m n =
    Happens (Leaves before later c) m.world n.world × (n.wrong ≡ c ∷ m.wrong)
IsDone (Errs before later old new) m n =
    (m.wrong ≡ before ++ old ∷ later) × ((n.wrong ≡ before ++ new ∷ later)
    × ((new.client ≡ old.client) × (n.world ≡ m.world)))
IsDone (Asks before later c st r) m n =
    (m.wrong ≡ before ++ c ∷ later) × ((n.wrong ≡ m.wrong)
    × ((client_named st ≡ Some c.client) × (AreOthers c.client m.world.caches
    × (IsStepOf m.world.domain st r n.world.domain × (n.world.caches ≡ m.world.caches)))))

-- one after another
abbrev pub AreDone : List Deed → Mixed → Mixed → Type 0
AreDone [] m n = n ≡ m
AreDone (d ∷ ds) m n = (k : Mixed) × (IsDone d m k × AreDone ds k n)

-- What of it the domain and the right caches see: all but what a wrong one does by itself. A right
-- cache that turns is left, and its client is as any other.
abbrev pub events_of : List Deed → List WorldEvent
events_of [] = []
events_of (Rightly e ∷ ds) = e ∷ events_of ds
events_of (Turns before later c ∷ ds) = Leaves before later c ∷ events_of ds
events_of (Errs before later old new ∷ ds) = events_of ds
events_of (Asks before later c st r ∷ ds) = Steps st r ∷ events_of ds

-- All is as it should be but behind wrong caches. Each right cache has what its client holds. Each
-- frame is in one range at most of those that the users of right caches hold and that other clients
-- hold, those of wrong caches among them. And a frame that such a user or client gave up is given
-- to such a one again only where a flush that began afterwards has ended well.
pub record AreUnharmed (ds : List Deed) (m : Mixed) : Type 0 where
  pub places : IsWorld m.world
  pub one_user : (frame : ℕ) → sum_by (has_frame frame) (in_use m.world) ≤ 1
  pub flushed : (i n frame : ℕ) → i < n → IsGivenUpAt (events_of ds) i frame
      → IsGivenAt (events_of ds) n frame → IsFlushedBetween (events_of ds) i n

-- Whatever is done, one after another, and whichever caches break their word, whenever they begin
-- to: the users of all others and the clients without a cache are unharmed.
abbrev pub WrongCachesHarmTheirOwn : Type 0
WrongCachesHarmTheirOwn =
    (ds : List Deed) (m n : Mixed) → IsWorld m.world → AreDone ds m n → AreUnharmed ds n
