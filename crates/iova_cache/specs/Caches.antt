-- A cache of ranges in front of a domain.
use Rattle.std.specs.Prelude.{ℕ, ◌≡◌, ◌^◌, ◌<◌, ◌≤◌, ◌-◌, ◌⊎◌, Bool, true, nat_lt, List, [], ◌∷◌, ◌++◌, length, map, min, take, drop, Option, None, Some, unwrap_or, sum_by, if◌then◌else◌}
use Rattle.std.specs.List.{AllByRecursion}
use Rattle.iova_range.specs.declared.limits.TheConstants.{SAC_LIMIT, MOST_CACHED}
use Rattle.iova_range.specs.Frames.{Frames}
use Rattle.iova_range.specs.Sizes.{need, order_of}
use Rattle.iova_model.specs.declared.entry.Entry.{Entry}
use Rattle.iova_model.specs.Flushes.{entry_range}
use Rattle.iova_cache.specs.declared.magazine.TheConstants.{MAGAZINE}
use Rattle.iova_cache.specs.Held.{Gains, all_ranges}
use Rattle.iova_cache.specs.Magazines.{magazine_of, with_magazine, no_magazines, IsTaken, IsUpTo}

-- What a `Cache` is seen as. All its ranges are those of one client of a domain: that client's
-- serial, the worker that opened it, and the last frame that is given from a magazine. Of these
-- ranges nobody has those in the magazines; the user holds others, in no order, and `room` says
-- whether one more comes in without memory; and others were given up and wait in the ring, oldest
-- first, each with the number of the last flush that had begun then.
pub record CacheState : Type 0 where
  pub worker : ℕ
  pub client : ℕ
  pub most : ℕ
  pub magazines : List (List Frames)
  pub held : List Frames
  pub room : Bool
  pub ring : List Entry

-- For a client that is `sac` the frames above 4 GiB are the domain's to give, where it has none
-- below.
abbrev pub most_of : Bool → ℕ
most_of sac = if sac then SAC_LIMIT else 2 ^ 64 - 1

-- a cache with no range
abbrev pub new_cache : ℕ → ℕ → Bool → CacheState
new_cache worker client sac = record {
  worker = worker;
  client = client;
  most = most_of sac;
  magazines = no_magazines;
  held = [];
  room = true;
  ring = [];
}

-- all ranges of a cache, each at one of the three places
abbrev pub ranges_of : CacheState → List Frames
ranges_of c = all_ranges c.magazines ++ (c.held ++ map entry_range c.ring)

-- Some ranges are the same in any order: whatever ranges weigh, they weigh as much.
abbrev pub Same : List Frames → List Frames → Type 0
Same old new = (weigh : Frames → ℕ) → sum_by weigh new ≡ sum_by weigh old

-- the client of a cache stays what it was
pub record IsSameClient (old new : CacheState) : Type 0 where
  pub worker : new.worker ≡ old.worker
  pub client : new.client ≡ old.client
  pub most : new.most ≡ old.most

-- What the user holds, in any order, has room for one range more; all else stays.
pub record HasMoreRoom (old new : CacheState) : Type 0 where
  pub held : Same old.held new.held
  pub room : new.room ≡ true
  pub magazines : new.magazines ≡ old.magazines
  pub ring : new.ring ≡ old.ring
  pub client : IsSameClient old new

-- Requests.

-- no frame above this one is given from a magazine
abbrev pub reach : CacheState → ℕ → ℕ
reach c limit = min limit c.most

-- a request for so many frames can be met by a magazine, of this order
pub record HasOrder (frames order : ℕ) : Type 0 where
  pub some : 1 ≤ frames
  pub few : frames ≤ MOST_CACHED
  pub is : order_of (need frames) ≡ Some order

-- The newest range of an order, which has no frame above the limit, has gone to the user.
pub record IsMet (old new : CacheState) (order limit : ℕ) (r : Frames) : Type 0 where
  pub taken : IsTaken old.magazines new.magazines order r
  pub fits : IsUpTo (reach old limit) r
  pub held : Gains r old.held new.held
  pub ring : new.ring ≡ old.ring
  pub client : IsSameClient old new

-- What is given up.

abbrev pub entry_at : Frames → ℕ → Entry
entry_at r count = record { lo = r.lo; len = r.len; count = count }

-- The range has gone from the user to the ring, last, with this count.
pub record IsGivenUp (old new : CacheState) (r : Frames) (count : ℕ) : Type 0 where
  pub held : Gains r new.held old.held
  pub ring : new.ring ≡ old.ring ++ entry_at r count ∷ []
  pub magazines : new.magazines ≡ old.magazines
  pub client : IsSameClient old new

-- What is clean.

-- the order of a range that has one
abbrev pub order_in : ℕ → ℕ
order_in len = unwrap_or (order_of len) 0

-- magazines after a range came into that of its order, and after several did, one after another
abbrev pub with_entry : List (List Frames) → Entry → List (List Frames)
with_entry ms e =
    with_magazine ms (order_in e.len) (magazine_of ms (order_in e.len) ++ entry_range e ∷ [])

abbrev pub with_entries : List (List Frames) → List Entry → List (List Frames)
with_entries ms [] = ms
with_entries ms (e ∷ es) = with_entries (with_entry ms e) es

-- the oldest range stays in the ring: no flush of a greater number has ended well, or the magazine
-- of its order is full
abbrev pub Stays : ℕ → List (List Frames) → Entry → Type 0
Stays newest ms e = (newest ≤ e.count) ⊎ (length (magazine_of ms (order_in e.len)) ≡ MAGAZINE)

abbrev pub OldestStays : ℕ → List (List Frames) → List Entry → Type 0
OldestStays newest ms [] = Unit {0}
OldestStays newest ms (e ∷ es) = Stays newest ms e

-- Of some entries so many went into the magazines, in order, each with a count below `newest`, and
-- the next one stays.
pub record IsSettling (old new : List (List Frames)) (ring : List Entry) (newest count : ℕ)
    : Type 0 where
  pub there : count ≤ length ring
  pub flushed : AllByRecursion (λ e. e.count < newest) (take count ring)
  pub magazines : new ≡ with_entries old (take count ring)
  pub stays : OldestStays newest new (drop count ring)

-- So many of the oldest ranges have gone from the ring to the magazines, and the next one stays.
pub record IsSettled (old new : CacheState) (newest count : ℕ) : Type 0 where
  pub magazines : IsSettling old.magazines new.magazines old.ring newest count
  pub ring : new.ring ≡ drop count old.ring
  pub held : new.held ≡ old.held
  pub client : IsSameClient old new

-- What a cache keeps.

abbrev pub one_without : Option ℕ → ℕ
one_without None = 1
one_without (Some order) = 0

-- a range of at most 32 frames that has no order
abbrev pub odd : Frames → ℕ
odd r = if nat_lt MOST_CACHED r.len then 0 else one_without (order_of r.len)

-- what a user holds of at most 32 frames has an order
abbrev pub AreGivenSizes : List Frames → Type 0
AreGivenSizes held = sum_by odd held ≡ 0
