-- What a call does to a slot for a cache, which holds one or none.
use Rattle.std.specs.Prelude.{ℕ, ◌≡◌, ◌≢◌, ◌^◌, ◌<◌, ◌≤◌, ◌⊎◌, ◌*◌, Bool, true, false, [], length, find, Option, None, Some, Result, Ok, Err, IfOk, IfErr, OnOk, OnErr, IfSome, IfNone, IsOkUnless}
use Rattle.iova_range.specs.declared.limits.TheConstants.{FRAME_BYTES, MOST_CACHED, ORDERS}
use Rattle.iova_range.specs.declared.refusal.Refusal.{Refusal}
use Rattle.iova_range.specs.Refusals.{refusal_number}
use Rattle.iova_range.specs.Frames.{Frames}
use Rattle.iova_model.specs.Clients.{begins_at}
use Rattle.iova_cache.specs.declared.cache.Unmet.{Unmet}
use Rattle.iova_cache.specs.declared.cache.Unmet.TheVariants as unmet
use Rattle.iova_cache.specs.declared.cache.Kept.{Kept}
use Rattle.iova_cache.specs.declared.cache.Kept.TheVariants as kept
use Rattle.iova_cache.specs.declared.apart.Unput.{Unput}
use Rattle.iova_cache.specs.declared.apart.Unput.TheVariants as unput
use Rattle.iova_cache.specs.Magazines.{magazine_of, Misses}
use Rattle.iova_cache.specs.Caches.{CacheState, HasOrder, HasMoreRoom, IsMet, IsGivenUp, IsSettled, reach, new_cache}
use Rattle.iova_range.specs.declared.refusal.Refusal.TheVariants as refusal
use Rattle.iova_model.specs.State.{State}
use Rattle.iova_model.specs.declared.step.Step.TheVariants as step
use Rattle.iova_model.specs.declared.step.Reply.{Reply}
use Rattle.iova_model.specs.declared.step.Reply.TheVariants as reply
use Rattle.iova_core.specs.Domain.{IsStepOf}
use Rattle.iova_cache.specs.Exchanges.{request, giving_up, IsAsked, IsDenied, IsOwnRefusal, IsReturned, IsRefilled, IsRefillRefusal, IsSpilled, IsUnspilled}
use Rattle.iova_c.specs.Answers.{number_answer}
use Rattle.iova_cache.specs.Apart.{IsPutIn, IsTakenOut, IsKept, IsUnkept, IsReleased}
use Rattle.iova_c.specs.declared.cached.TheConstants.{NO_CACHE, NO_ORDER, DRY, MISS, FULL}
use Rattle.iova_c.specs.declared.slot.Paged.{Paged}
use Rattle.iova_c.specs.declared.cached.PagedCache.{PagedCache}
use Rattle.iova_c.specs.Slots.{with_domain}
use Rattle.iova_c.specs.declared.answer.RangeAnswer.{RangeAnswer}
use Rattle.iova_c.specs.declared.answer.NumberAnswer.{NumberAnswer}
use Rattle.iova_c.specs.declared.answer.MappingAnswer.{MappingAnswer}
use Rattle.iova_c.specs.declared.answer.CacheCountsAnswer.{CacheCountsAnswer}

-- The numbers of what a cache refuses by.

abbrev pub unmet_number : Unmet → ℕ
unmet_number unmet.NoOrder = NO_ORDER
unmet_number unmet.Miss = MISS
unmet_number unmet.Empty = DRY
unmet_number unmet.NoMemory = 17

abbrev pub kept_number : Kept → ℕ
kept_number kept.NotHeld = 8
kept_number kept.NoOrder = NO_ORDER
kept_number kept.RingFull = 7

abbrev pub unput_number : Unput → ℕ
unput_number unput.NoOrder = NO_ORDER
unput_number unput.TooHigh = 10
unput_number unput.Full = FULL

-- What is answered.

abbrev pub no_range : ℕ → RangeAnswer
no_range number = record { refused = number; lo = 0; len = 0 }

abbrev pub a_range : Frames → RangeAnswer
a_range r = record { refused = 0; lo = r.lo; len = r.len }

abbrev pub unmet_answer : Result Frames Unmet → RangeAnswer
unmet_answer (Ok r) = a_range r
unmet_answer (Err x) = no_range (unmet_number x)

abbrev pub kept_answer : Result Frames Kept → RangeAnswer
kept_answer (Ok r) = a_range r
kept_answer (Err x) = no_range (kept_number x)

-- a range, or the refusal that this number has
abbrev pub some_answer : ℕ → Option Frames → RangeAnswer
some_answer number (Some r) = a_range r
some_answer number None = no_range number

abbrev pub unput_answer : Result (Unit {0}) Unput → ℕ
unput_answer (Ok u) = 0
unput_answer (Err x) = unput_number x

abbrev pub word_of : Result (Unit {0}) Refusal → ℕ
word_of (Ok u) = 0
word_of (Err x) = refusal_number x

-- the addresses of a range that is answered, in bytes, of which a frame has so many
abbrev pub in_bytes : ℕ → RangeAnswer → MappingAnswer
in_bytes granule a =
    record { refused = a.refused; address = a.lo * granule; bytes = a.len * granule }

-- how many bytes a frame of the slot's cache has
abbrev pub granule_in : Option PagedCache → ℕ
granule_in (Some c) = c.granule
granule_in None = FRAME_BYTES

-- the slot's content with another state of the cache
abbrev pub with_cache : PagedCache → CacheState → PagedCache
with_cache c x = record { cache = x; granule = c.granule }

-- The calls. Each is what the slot's cache does, or is refused by NO_CACHE and changes nothing.

pub record Allocates (old new : CacheState) (frames limit : ℕ) (res : Result Frames Unmet)
    : Type 0 where
  pub met : IfOk res (λ r. (order : ℕ) × HasOrder frames order × IsMet old new order limit r)
  pub no_order : res ≡ Err unmet.NoOrder → (order : ℕ) → HasOrder frames order → ⊥
  pub miss : res ≡ Err unmet.Miss → (order : ℕ) × HasOrder frames order
      × Misses old.magazines order (reach old limit)
  pub empty : res ≡ Err unmet.Empty → (order : ℕ) × HasOrder frames order
      × (magazine_of old.magazines order ≡ [])
  pub unchanged : OnErr res (new ≡ old)

abbrev pub AllocCall : Option PagedCache → ℕ → ℕ → RangeAnswer → Option PagedCache → Type 0
AllocCall None frames limit a new = (a ≡ no_range NO_CACHE) × (new ≡ None)
AllocCall (Some c) frames limit a new =
    (c' : CacheState) × ((res : Result Frames Unmet) × (Allocates c.cache c' frames limit res
    × ((a ≡ unmet_answer res) × (new ≡ Some (with_cache c c')))))

pub record Unmaps (old new : CacheState) (lo start : ℕ) (res : Result Frames Kept) : Type 0 where
  pub given_up : IfOk res (λ r. (find (begins_at lo) old.held ≡ Some r) × (r.len ≤ MOST_CACHED)
      × IsGivenUp old new r start)
  pub room : OnOk res (length old.ring < 255)
  pub not_held : res ≡ Err kept.NotHeld → find (begins_at lo) old.held ≡ None
  pub no_order : res ≡ Err kept.NoOrder → (r : Frames)
      × (find (begins_at lo) old.held ≡ Some r) × (MOST_CACHED < r.len)
  pub full : res ≡ Err kept.RingFull → (length old.ring ≡ 255) × ((r : Frames)
      × (find (begins_at lo) old.held ≡ Some r) × (r.len ≤ MOST_CACHED))
  pub unchanged : OnErr res (new ≡ old)

abbrev pub UnmapCall : Option PagedCache → ℕ → ℕ → RangeAnswer → Option PagedCache → Type 0
UnmapCall None lo start a new = (a ≡ no_range NO_CACHE) × (new ≡ None)
UnmapCall (Some c) lo start a new =
    (c' : CacheState) × ((res : Result Frames Kept) × (Unmaps c.cache c' lo start res
    × ((a ≡ kept_answer res) × (new ≡ Some (with_cache c c')))))

-- what `map` does: `alloc`, answered in bytes
abbrev pub MapCall : Option PagedCache → ℕ → ℕ → MappingAnswer → Option PagedCache → Type 0
MapCall old frames limit a new =
    (range : RangeAnswer) × (AllocCall old frames limit range new
    × (a ≡ in_bytes (granule_in old) range))

abbrev pub UnmapBytesCall : Option PagedCache → ℕ → ℕ → MappingAnswer → Option PagedCache → Type 0
UnmapBytesCall old lo start a new =
    (range : RangeAnswer) × (UnmapCall old lo start range new
    × (a ≡ in_bytes (granule_in old) range))

abbrev pub SettleCall : Option PagedCache → ℕ → NumberAnswer → Option PagedCache → Type 0
SettleCall None newest a new = (a ≡ record { refused = NO_CACHE; number = 0 }) × (new ≡ None)
SettleCall (Some c) newest a new =
    (c' : CacheState) × ((count : ℕ) × (IsSettled c.cache c' newest count
    × ((a ≡ record { refused = 0; number = count }) × (new ≡ Some (with_cache c c')))))

pub record Puts (old new : CacheState) (lo len : ℕ) (res : Result (Unit {0}) Unput) : Type 0 where
  pub put : OnOk res ((order : ℕ) × IsPutIn old new order (record { lo = lo; len = len }))
  pub no_order : res ≡ Err unput.NoOrder → (order : ℕ) → order < ORDERS → len ≢ 2 ^ order
  pub high : res ≡ Err unput.TooHigh → 2 ^ 40 ≤ lo
  pub full : res ≡ Err unput.Full → (order : ℕ) × (len ≡ 2 ^ order)
      × (length (magazine_of old.magazines order) ≡ 256)
  pub unchanged : OnErr res (new ≡ old)

abbrev pub PutCall : Option PagedCache → ℕ → ℕ → ℕ → Option PagedCache → Type 0
PutCall None lo len a new = (a ≡ NO_CACHE) × (new ≡ None)
PutCall (Some c) lo len a new =
    (c' : CacheState) × ((res : Result (Unit {0}) Unput) × (Puts c.cache c' lo len res
    × ((a ≡ unput_answer res) × (new ≡ Some (with_cache c c')))))

pub record TakesFrom (old new : CacheState) (order : ℕ) (res : Option Frames) : Type 0 where
  pub taken : IfSome res (IsTakenOut old new order)
  pub empty : IfNone res (magazine_of old.magazines order ≡ [])
  pub unchanged : IfNone res (new ≡ old)

abbrev pub TakeCall : Option PagedCache → ℕ → RangeAnswer → Option PagedCache → Type 0
TakeCall None order a new = (a ≡ no_range NO_CACHE) × (new ≡ None)
TakeCall (Some c) order a new =
    ((ORDERS ≤ order) × ((a ≡ no_range NO_ORDER) × (new ≡ Some c)))
    ⊎ ((c' : CacheState) × ((res : Option Frames) × (TakesFrom c.cache c' order res
    × ((a ≡ some_answer DRY res) × (new ≡ Some (with_cache c c'))))))

pub record MakesRoom (old new : CacheState) (res : Result (Unit {0}) Refusal) : Type 0 where
  pub room : OnOk res (HasMoreRoom old new)
  pub full : OnErr res (old.room ≡ false)
  pub refused : IsOkUnless res refusal.NoMemory
  pub unchanged : OnErr res (new ≡ old)

abbrev pub RoomCall : Option PagedCache → ℕ → Option PagedCache → Type 0
RoomCall None a new = (a ≡ NO_CACHE) × (new ≡ None)
RoomCall (Some c) a new =
    (c' : CacheState) × ((res : Result (Unit {0}) Refusal) × (MakesRoom c.cache c' res
    × ((a ≡ word_of res) × (new ≡ Some (with_cache c c')))))

pub record Keeps (old new : CacheState) (lo len : ℕ) (res : Result (Unit {0}) Refusal)
    : Type 0 where
  pub kept : OnOk res (IsKept old new (record { lo = lo; len = len }))
  pub refused : IfErr res (IsUnkept old lo len)
  pub unchanged : OnErr res (new ≡ old)

abbrev pub KeepCall : Option PagedCache → ℕ → ℕ → ℕ → Option PagedCache → Type 0
KeepCall None lo len a new = (a ≡ NO_CACHE) × (new ≡ None)
KeepCall (Some c) lo len a new =
    (c' : CacheState) × ((res : Result (Unit {0}) Refusal) × (Keeps c.cache c' lo len res
    × ((a ≡ word_of res) × (new ≡ Some (with_cache c c')))))

pub record Releases (old new : CacheState) (lo : ℕ) (res : Option Frames) : Type 0 where
  pub released : IfSome res (IsReleased old new lo)
  pub none : IfNone res (find (begins_at lo) old.held ≡ None)
  pub unchanged : IfNone res (new ≡ old)

abbrev pub ReleaseCall : Option PagedCache → ℕ → RangeAnswer → Option PagedCache → Type 0
ReleaseCall None lo a new = (a ≡ no_range NO_CACHE) × (new ≡ None)
ReleaseCall (Some c) lo a new =
    (c' : CacheState) × ((res : Option Frames) × (Releases c.cache c' lo res
    × ((a ≡ some_answer 8 res) × (new ≡ Some (with_cache c c')))))

pub record Loses (old new : CacheState) (res : Option Frames) : Type 0 where
  pub gone : IfSome res (λ r. IsReleased old new r.lo r)
  pub none : IfNone res (old.held ≡ [])
  pub unchanged : IfNone res (new ≡ old)

abbrev pub AnyCall : Option PagedCache → RangeAnswer → Option PagedCache → Type 0
AnyCall None a new = (a ≡ no_range NO_CACHE) × (new ≡ None)
AnyCall (Some c) a new =
    (c' : CacheState) × ((res : Option Frames) × (Loses c.cache c' res
    × ((a ≡ some_answer 0 res) × (new ≡ Some (with_cache c c')))))

-- A new cache of a client that is elsewhere is in the slot, in place of what was there; or memory
-- was refused, and that stays.
abbrev pub ApartCall : Option PagedCache → Bool → ℕ → Option PagedCache → Type 0
ApartCall old sac a new =
    ((a ≡ 0) × (new ≡ Some (record { cache = new_cache 0 0 sac; granule = FRAME_BYTES })))
    ⊎ ((a ≡ 17) × (new ≡ old))

abbrev pub counts_in : Option PagedCache → CacheCountsAnswer
counts_in None = record {
  refused = NO_CACHE;
  held = 0;
  waiting = 0;
  order_0 = 0;
  order_1 = 0;
  order_2 = 0;
  order_3 = 0;
  order_4 = 0;
  order_5 = 0;
}
counts_in (Some c) = record {
  refused = 0;
  held = length c.cache.held;
  waiting = length c.cache.ring;
  order_0 = length (magazine_of c.cache.magazines 0);
  order_1 = length (magazine_of c.cache.magazines 1);
  order_2 = length (magazine_of c.cache.magazines 2);
  order_3 = length (magazine_of c.cache.magazines 3);
  order_4 = length (magazine_of c.cache.magazines 4);
  order_5 = length (magazine_of c.cache.magazines 5);
}

abbrev pub CountsCall : Option PagedCache → CacheCountsAnswer → Option PagedCache → Type 0
CountsCall old a new = (a ≡ counts_in old) × (new ≡ old)

-- The calls that have a domain too.

abbrev pub count_answer : Result ℕ Refusal → NumberAnswer
count_answer (Ok n) = record { refused = 0; number = n }
count_answer (Err x) = record { refused = refusal_number x; number = 0 }

abbrev pub refusal_answer : Result Frames Refusal → RangeAnswer
refusal_answer (Ok r) = a_range r
refusal_answer (Err x) = no_range (refusal_number x)

abbrev pub no_number : ℕ → NumberAnswer
no_number number = record { refused = number; number = 0 }

-- Each is what the domain and the cache do together. Without one of them it is refused, and nothing
-- changes.

pub record Refills (s t : State) (old new : CacheState) (frames limit most : ℕ)
    (res : Result ℕ Refusal) : Type 0 where
  pub refilled : IfOk res (IsRefilled old new s t frames limit most)
  pub refused : IfErr res (λ x. (new ≡ old) × ((IsRefillRefusal frames x × (t ≡ s))
      ⊎ IsStepOf s (request old frames limit) (reply.Refused x) t))

abbrev pub RefillCall : Option Paged → Option PagedCache → ℕ → ℕ → ℕ → NumberAnswer → Option Paged
    → Option PagedCache → Type 0
RefillCall s None frames limit most a t new =
    (a ≡ no_number NO_CACHE) × ((t ≡ s) × (new ≡ None))
RefillCall None (Some c) frames limit most a t new =
    (a ≡ no_number 23) × ((t ≡ None) × (new ≡ Some c))
RefillCall (Some s) (Some c) frames limit most a t new =
    (s' : State) × ((c' : CacheState) × ((res : Result ℕ Refusal)
    × (Refills s.domain s' c.cache c' frames limit most res
    × ((a ≡ count_answer res) × ((t ≡ Some (with_domain s s'))
    × (new ≡ Some (with_cache c c')))))))

pub record Spills (s t : State) (old new : CacheState) (order most : ℕ) (res : Result ℕ Refusal)
    : Type 0 where
  pub spilled : IfOk res (IsSpilled old new s t order most)
  pub refused : IfErr res (λ x. (new ≡ old) × IsUnspilled old s t order x)

abbrev pub SpillCall : Option Paged → Option PagedCache → ℕ → ℕ → NumberAnswer → Option Paged
    → Option PagedCache → Type 0
SpillCall s None order most a t new = (a ≡ no_number NO_CACHE) × ((t ≡ s) × (new ≡ None))
SpillCall None (Some c) order most a t new =
    (a ≡ no_number 23) × ((t ≡ None) × (new ≡ Some c))
SpillCall (Some s) (Some c) order most a t new =
    ((ORDERS ≤ order) × ((a ≡ no_number NO_ORDER) × ((t ≡ Some s) × (new ≡ Some c))))
    ⊎ ((s' : State) × ((c' : CacheState) × ((res : Result ℕ Refusal)
    × (Spills s.domain s' c.cache c' order most res
    × ((a ≡ count_answer res) × ((t ≡ Some (with_domain s s'))
    × (new ≡ Some (with_cache c c'))))))))

pub record AllocatesBy (s t : State) (old new : CacheState) (frames limit : ℕ)
    (res : Result Frames Refusal) : Type 0 where
  pub asked : IfOk res (IsAsked old new s t frames limit)
  pub refused : IfErr res (λ x. (IsOwnRefusal old frames x × (new ≡ old) × (t ≡ s))
      ⊎ IsDenied old new s t (request old frames limit) x)

abbrev pub AllocByCall : Option Paged → Option PagedCache → ℕ → ℕ → RangeAnswer → Option Paged
    → Option PagedCache → Type 0
AllocByCall s None frames limit a t new = (a ≡ no_range NO_CACHE) × ((t ≡ s) × (new ≡ None))
AllocByCall None (Some c) frames limit a t new =
    (a ≡ no_range 23) × ((t ≡ None) × (new ≡ Some c))
AllocByCall (Some s) (Some c) frames limit a t new =
    (s' : State) × ((c' : CacheState) × ((res : Result Frames Refusal)
    × (AllocatesBy s.domain s' c.cache c' frames limit res
    × ((a ≡ refusal_answer res) × ((t ≡ Some (with_domain s s'))
    × (new ≡ Some (with_cache c c')))))))

pub record UnmapsBy (s t : State) (old new : CacheState) (lo : ℕ) (res : Result Frames Refusal)
    : Type 0 where
  pub returned : IfOk res (λ r. (find (begins_at lo) old.held ≡ Some r)
      × IsReturned old new s t lo r)
  pub refused : IfErr res (λ x. (new ≡ old) × (((x ≡ refusal.NotHeld)
      × (find (begins_at lo) old.held ≡ None) × (t ≡ s))
      ⊎ IsStepOf s (giving_up old lo) (reply.Refused x) t))

abbrev pub UnmapByCall : Option Paged → Option PagedCache → ℕ → RangeAnswer → Option Paged
    → Option PagedCache → Type 0
UnmapByCall s None lo a t new = (a ≡ no_range NO_CACHE) × ((t ≡ s) × (new ≡ None))
UnmapByCall None (Some c) lo a t new = (a ≡ no_range 23) × ((t ≡ None) × (new ≡ Some c))
UnmapByCall (Some s) (Some c) lo a t new =
    (s' : State) × ((c' : CacheState) × ((res : Result Frames Refusal)
    × (UnmapsBy s.domain s' c.cache c' lo res
    × ((a ≡ refusal_answer res) × ((t ≡ Some (with_domain s s'))
    × (new ≡ Some (with_cache c c')))))))

-- A cache of a new client of the domain is there; or it was refused, and what was there stays.
abbrev pub MakesIn : Paged → Option PagedCache → ℕ → Bool → NumberAnswer → Paged → Option PagedCache
    → Type 0
MakesIn p old worker sac a q new =
    (s' : State) × ((q ≡ with_domain p s')
    × (((id : ℕ) × (IsStepOf p.domain (step.Open worker sac) (reply.Opened id) s'
    × ((a ≡ record { refused = 0; number = id })
    × (new ≡ Some (record { cache = new_cache worker id sac; granule = p.granule })))))
    ⊎ ((x : Refusal) × ((((x ≡ refusal.NoMemory) × (s' ≡ p.domain))
    ⊎ IsStepOf p.domain (step.Open worker sac) (reply.Refused x) s')
    × ((a ≡ no_number (refusal_number x)) × (new ≡ old))))))

-- A cache is made over a slot's domain. Single address cycles are refused in a domain of another
-- granule than 4 KiB.
pub record Makes (p : Paged) (old : Option PagedCache) (worker : ℕ) (sac : Bool) (a : NumberAnswer)
    (t : Option Paged) (new : Option PagedCache) : Type 0 where
  pub no_cycles : sac ≡ true → p.granule ≢ FRAME_BYTES
      → (a ≡ no_number (refusal_number refusal.BadProfile)) × ((t ≡ Some p) × (new ≡ old))
  pub made : (sac ≡ true → p.granule ≡ FRAME_BYTES)
      → (q : Paged) × ((t ≡ Some q) × MakesIn p old worker sac a q new)

abbrev pub MakeCall : Option Paged → Option PagedCache → ℕ → Bool → NumberAnswer → Option Paged
    → Option PagedCache → Type 0
MakeCall None old worker sac a t new = (a ≡ no_number 23) × ((t ≡ None) × (new ≡ old))
MakeCall (Some p) old worker sac a t new = Makes p old worker sac a t new

-- The cache is gone in any case, and its client is marked.
abbrev pub EndCall : Option Paged → Option PagedCache → NumberAnswer → Option Paged
    → Option PagedCache → Type 0
EndCall s None a t new = (a ≡ no_number NO_CACHE) × ((t ≡ s) × (new ≡ None))
EndCall None (Some c) a t new = (a ≡ no_number 23) × ((t ≡ None) × (new ≡ None))
EndCall (Some s) (Some c) a t new =
    (s' : State) × ((r : Reply) × (IsStepOf s.domain (step.Close c.cache.worker c.cache.client) r s'
    × ((a ≡ number_answer r) × ((t ≡ Some (with_domain s s')) × (new ≡ None)))))
