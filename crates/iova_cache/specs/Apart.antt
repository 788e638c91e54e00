-- Ranges that come into a cache and go out of it one by one.
use Rattle.std.specs.Prelude.{ℕ, ◌≡◌, ◌^◌, ◌<◌, ◌≤◌, ◌⊎◌, false, find, Some, None}
use Rattle.iova_range.specs.declared.limits.TheConstants.{MAX_FRAMES, MOST_CACHED}
use Rattle.iova_range.specs.declared.refusal.Refusal.{Refusal}
use Rattle.iova_range.specs.declared.refusal.Refusal.TheVariants as refusal
use Rattle.iova_range.specs.Frames.{Frames}
use Rattle.iova_range.specs.Sizes.{order_of}
use Rattle.iova_model.specs.Clients.{begins_at}
use Rattle.iova_cache.specs.Held.{Gains}
use Rattle.iova_cache.specs.Magazines.{IsTaken, IsPut}
use Rattle.iova_cache.specs.Caches.{CacheState, IsSameClient}

-- The range has come into the magazine of its order.
pub record IsPutIn (old new : CacheState) (order : ℕ) (r : Frames) : Type 0 where
  pub put : IsPut old.magazines new.magazines order r
  pub size : r.len ≡ 2 ^ order
  pub held : new.held ≡ old.held
  pub ring : new.ring ≡ old.ring
  pub client : IsSameClient old new

-- The newest range of an order has gone.
pub record IsTakenOut (old new : CacheState) (order : ℕ) (r : Frames) : Type 0 where
  pub taken : IsTaken old.magazines new.magazines order r
  pub held : new.held ≡ old.held
  pub ring : new.ring ≡ old.ring
  pub client : IsSameClient old new

-- The user has got the range.
pub record IsKept (old new : CacheState) (r : Frames) : Type 0 where
  pub held : Gains r old.held new.held
  pub magazines : new.magazines ≡ old.magazines
  pub ring : new.ring ≡ old.ring
  pub client : IsSameClient old new

-- The range that begins there has gone from the user.
pub record IsReleased (old new : CacheState) (lo : ℕ) (r : Frames) : Type 0 where
  pub found : find (begins_at lo) old.held ≡ Some r
  pub held : Gains r new.held old.held
  pub magazines : new.magazines ≡ old.magazines
  pub ring : new.ring ≡ old.ring
  pub client : IsSameClient old new

-- Why a user isn't given a range: it begins too high, or no domain gives one of its length; or what
-- the user holds has no room without memory, and memory is refused.
abbrev pub IsUnkept : CacheState → ℕ → ℕ → Refusal → Type 0
IsUnkept c lo len refusal.BadWindow =
    (2 ^ 40 ≤ lo)
    ⊎ ((len ≡ 0) ⊎ ((MAX_FRAMES < len) ⊎ ((len ≤ MOST_CACHED) × (order_of len ≡ None))))
IsUnkept c lo len refusal.NoMemory = c.room ≡ false
IsUnkept c lo len x = ⊥
