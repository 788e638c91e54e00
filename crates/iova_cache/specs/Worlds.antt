-- A domain and any number of caches in front of it, for every list of what is done with them.
use Rattle.std.specs.Prelude.{ℕ, ◌≡◌, ◌≢◌, ◌≤◌, ◌==◌, Bool, true, false, if◌then◌else◌, List, [], ◌∷◌, ◌++◌, sum_by, Some}
use Rattle.iova_range.specs.declared.refusal.Refusal.{Refusal}
use Rattle.iova_range.specs.Frames.{Frames, covers}
use Rattle.iova_model.specs.declared.step.Step.{Step}
use Rattle.iova_model.specs.declared.step.Step.TheVariants as step
use Rattle.iova_model.specs.declared.step.Reply.{Reply}
use Rattle.iova_model.specs.declared.step.Reply.TheVariants as reply
use Rattle.iova_model.specs.Clients.{Client}
use Rattle.iova_model.specs.State.{State}
use Rattle.iova_model.specs.Valid.{IsValid}
use Rattle.iova_model.specs.Effects.{client_named, held_by}
use Rattle.iova_core.specs.Domain.{IsStepOf}
use Rattle.iova_cache.specs.Caches.{CacheState, ranges_of, new_cache}
use Rattle.iova_cache.specs.Laws.{Act, Does, IsWhole}
use Rattle.iova_cache.specs.Laws.Act.{Gives, TakesBack, Settles, Refills, Spills, Asks, Returns, Puts, Takes, Keeps, Releases, Grows, Refuses}

pub record World : Type 0 where
  pub domain : State
  pub caches : List CacheState

-- What the client of a cache holds are the cache's ranges, in any order: whatever ranges weigh,
-- they weigh as much.
abbrev pub IsBooked : State → CacheState → Type 0
IsBooked s c =
    (weigh : Frames → ℕ) → sum_by weigh (held_by c.client s.clients) ≡ sum_by weigh (ranges_of c)

abbrev pub AreBooked : State → List CacheState → Type 0
AreBooked s [] = Unit {0}
AreBooked s (c ∷ cs) = (IsWhole c × IsBooked s c) × AreBooked s cs

-- no cache is this client's
abbrev pub AreOthers : ℕ → List CacheState → Type 0
AreOthers id [] = Unit {0}
AreOthers id (c ∷ cs) = (c.client ≢ id) × AreOthers id cs

-- no two are of one client
abbrev pub AreApart : List CacheState → Type 0
AreApart [] = Unit {0}
AreApart (c ∷ cs) = AreOthers c.client cs × AreApart cs

-- an act of a cache has taken its domain from s to t
abbrev pub Moves : Act → State → State → Type 0
Moves (Gives order limit r) s t = t ≡ s
Moves (TakesBack r count) s t = t ≡ s
Moves (Settles newest count) s t = t ≡ s
Moves (Refills a b frames limit most count) s t = (s ≡ a) × (t ≡ b)
Moves (Spills a b order most count) s t = (s ≡ a) × (t ≡ b)
Moves (Asks a b frames limit r) s t = (s ≡ a) × (t ≡ b)
Moves (Returns a b lo r) s t = (s ≡ a) × (t ≡ b)
Moves (Puts order r) s t = ⊥
Moves (Takes order r) s t = ⊥
Moves (Keeps r) s t = ⊥
Moves (Releases lo r) s t = ⊥
Moves Grows s t = t ≡ s
Moves Refuses s t = t ≡ s

-- the step names the client of none of the caches
abbrev pub NamesNone : Step → List CacheState → Type 0
NamesNone st [] = Unit {0}
NamesNone st (c ∷ cs) = (client_named st ≡ Some c.client → ⊥) × NamesNone st cs

-- a request, or an unmap
abbrev pub IsRequest : Step → Type 0
IsRequest (step.Alloc w id frames limit) = Unit {0}
IsRequest (step.Unmap w id lo) = Unit {0}
IsRequest (step.Reserve lo hi) = ⊥
IsRequest (step.Open w sac) = ⊥
IsRequest step.Begin = ⊥
IsRequest (step.End n ok) = ⊥
IsRequest (step.Drain ring by) = ⊥
IsRequest (step.Close w id) = ⊥
IsRequest (step.CloseOne w id) = ⊥

-- What happens: a cache does something, with its domain or without; the domain takes a step of
-- somebody else's, or refuses one of a cache's; a cache of a new client is opened; one is left,
-- whose client then is as any other.
pub data WorldEvent : Type 0 where
  Acts : (before later : List CacheState) (a : Act) (old new : CacheState)
      (came went : List Frames) → WorldEvent
  Steps : (st : Step) (r : Reply) → WorldEvent
  Denies : (st : Step) (x : Refusal) → WorldEvent
  Opens : (worker : ℕ) (sac : Bool) (id : ℕ) → WorldEvent
  Leaves : (before later : List CacheState) (c : CacheState) → WorldEvent

abbrev pub Happens : WorldEvent → World → World → Type 0
Happens (Acts before later a old new came went) w v =
    (w.caches ≡ before ++ old ∷ later) × ((v.caches ≡ before ++ new ∷ later)
    × (Does a old came went new × Moves a w.domain v.domain))
Happens (Steps st r) w v =
    IsStepOf w.domain st r v.domain × ((v.caches ≡ w.caches) × NamesNone st w.caches)
Happens (Denies st x) w v =
    IsStepOf w.domain st (reply.Refused x) v.domain × ((v.caches ≡ w.caches) × IsRequest st)
Happens (Opens worker sac id) w v =
    IsStepOf w.domain (step.Open worker sac) (reply.Opened id) v.domain
    × ((v.caches ≡ new_cache worker id sac ∷ w.caches)
    × (AreOthers id w.caches × (held_by id v.domain.clients ≡ [])))
Happens (Leaves before later c) w v =
    (w.caches ≡ before ++ c ∷ later) × ((v.caches ≡ before ++ later) × (v.domain ≡ w.domain))

abbrev pub Goes : List WorldEvent → World → World → Type 0
Goes [] w v = v ≡ w
Goes (e ∷ es) w v = (u : World) × (Happens e w u × Goes es u v)

-- a domain as it may be, and caches each of which has what its client holds
pub record IsWorld (w : World) : Type 0 where
  pub valid : IsValid w.domain
  pub booked : AreBooked w.domain w.caches
  pub apart : AreApart w.caches

-- Whatever happens, one after another, each cache has what its client holds, and no two are of one
-- client.
abbrev pub PlacesAreKept : Type 0
PlacesAreKept = (es : List WorldEvent) (w v : World) → IsWorld w → Goes es w v → IsWorld v

-- Who uses what.

-- what the users of caches hold
abbrev pub held_over : List CacheState → List Frames
held_over [] = []
held_over (c ∷ cs) = c.held ++ held_over cs

-- a cache is this client's
abbrev pub has_cache : ℕ → List CacheState → Bool
has_cache id [] = false
has_cache id (c ∷ cs) = if id == c.client then true else has_cache id cs

-- what those clients hold that have no cache
abbrev pub held_without : List CacheState → List Client → List Frames
held_without cs [] = []
held_without cs
    (x ∷ xs) = if has_cache x.id cs then held_without cs xs else x.holdings ++ held_without cs xs

-- what users hold: those of caches, and the other clients of the domain
abbrev pub in_use : World → List Frames
in_use w = held_over w.caches ++ held_without w.caches w.domain.clients

-- whether a range has the frame, as a number
abbrev pub has_frame : ℕ → Frames → ℕ
has_frame frame r = if covers frame r then 1 else 0

-- Whatever happens, one after another, each frame is in one range at most of those that users hold.
abbrev pub FramesHaveOneUser : Type 0
FramesHaveOneUser =
    (es : List WorldEvent) (w v : World) → IsWorld w → Goes es w v
    → (frame : ℕ) → sum_by (has_frame frame) (in_use v) ≤ 1
