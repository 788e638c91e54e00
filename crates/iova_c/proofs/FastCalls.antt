-- What the fast call does is what the whole call does.
use Rattle.std.specs.Prelude.{ℕ, ◌≡◌, ◌<◌, ◌≤◌, find, length, Option, Some, None, Result, Ok, Err, IfSome}
use Rattle.std.proofs.Common.{refl}
use Rattle.iova_range.specs.declared.limits.TheConstants.{MOST_CACHED}
use Rattle.iova_range.specs.Frames.{Frames}
use Rattle.iova_model.specs.Clients.{begins_at}
use Rattle.iova_cache.specs.declared.cache.Unmet.{Unmet}
use Rattle.iova_cache.specs.declared.cache.Unmet.TheVariants as unmet
use Rattle.iova_cache.specs.declared.cache.Kept.{Kept}
use Rattle.iova_cache.specs.declared.cache.Kept.TheVariants as kept
use Rattle.iova_cache.specs.Caches.{CacheState, HasOrder, IsMet, IsGivenUp}
use Rattle.iova_c.specs.declared.cached.PagedCache.{PagedCache}
use Rattle.iova_c.specs.Caches.{AllocCall, UnmapCall, a_range, with_cache}

pub met_call : (o : Option Frames) (old : PagedCache) (c : CacheState) (frames limit : ℕ) → IfSome o (λ r. (order : ℕ) × HasOrder frames order × IsMet old.cache c order limit r)
    → IfSome o (λ r. AllocCall (Some old) frames limit (a_range r) (Some (with_cache old c)))
met_call None old c frames limit met = tt
met_call (Some r) old c frames limit met = (
  c,
  (
    Ok r,
    (
      record {
        met = met;
        no_order = λ is. absurd (let bad : ◌≡◌ {A = Result Frames Unmet} (Ok r) (Err unmet.NoOrder) = is in cc);
        miss = λ is. absurd (let bad : ◌≡◌ {A = Result Frames Unmet} (Ok r) (Err unmet.Miss) = is in cc);
        empty = λ is. absurd (let bad : ◌≡◌ {A = Result Frames Unmet} (Ok r) (Err unmet.Empty) = is in cc);
        unchanged = tt;
      },
      (refl, refl),
    ),
  ),
)

pub given_up_call : (o : Option Frames) (old : PagedCache) (c : CacheState) (lo start : ℕ)
    → IfSome o (λ r. (find (begins_at lo) old.cache.held ≡ Some r) × (r.len ≤ MOST_CACHED) × IsGivenUp old.cache c r start) → IfSome o (λ r. length old.cache.ring < 255)
    → IfSome o (λ r. UnmapCall (Some old) lo start (a_range r) (Some (with_cache old c)))
given_up_call None old c lo start up room = tt
given_up_call (Some r) old c lo start up room = (
  c,
  (
    Ok r,
    (
      record {
        given_up = up;
        room = room;
        not_held = λ is. absurd (let bad : ◌≡◌ {A = Result Frames Kept} (Ok r) (Err kept.NotHeld) = is in cc);
        no_order = λ is. absurd (let bad : ◌≡◌ {A = Result Frames Kept} (Ok r) (Err kept.NoOrder) = is in cc);
        full = λ is. absurd (let bad : ◌≡◌ {A = Result Frames Kept} (Ok r) (Err kept.RingFull) = is in cc);
        unchanged = tt;
      },
      (refl, refl),
    ),
  ),
)
