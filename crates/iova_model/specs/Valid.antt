-- What makes a state valid. Each domain keeps it.
use Rattle.std.specs.Prelude.{ℕ, ◌≡◌, ◌<◌, ◌≤◌, ◌+◌, ◌-◌, ◌%◌, ◌^◌, ◌&&◌, ◌==◌, Bool, true, nat_le, List, [], ◌∷◌, length}
use Rattle.std.specs.List.{list_all, AllByRecursion}
use Rattle.iova_range.specs.declared.limits.TheConstants.{MAX_WORKERS, MAX_CLIENTS, MAX_HOLDINGS, MAX_WINDOWS, MAX_FRAMES, MAX_ENTRIES, MAX_SERIAL, ORDERS}
use Rattle.iova_range.specs.Frames.{Frames}
use Rattle.iova_range.specs.Sizes.{align_of}
use Rattle.iova_range.specs.Bounds.{Capacities, Extent, IsExtent}
use Rattle.iova_model.specs.declared.entry.Entry.{Entry}
use Rattle.iova_model.specs.Caches.{Cache, Caches}
use Rattle.iova_model.specs.Flushes.{AreSound, CountsRise}
use Rattle.iova_model.specs.Clients.{Client}
use Rattle.iova_model.specs.State.{State, holders, owners, times_held}

-- One place.

abbrev pub is_inside : Extent → Frames → Bool
is_inside b r = nat_le 1 r.len && nat_le b.start r.lo && nat_le (r.lo + r.len) (b.last + 1)

abbrev pub is_aligned : Frames → Bool
is_aligned r = r.lo % align_of r.len == 0

-- No frame is in two holders; each holder is inside the bounds, and aligned to its length unless it
-- is a window. So each frame of the bounds is in exactly one place.
pub record IsOnePlace (s : State) : Type 0 where
  pub once : (frame : ℕ) → times_held frame (holders s) ≤ 1
  pub inside : list_all (λ h. is_inside s.bounds h.range) (holders s) ≡ true
  pub aligned : list_all (λ h. is_aligned h.range) (owners s) ≡ true

-- The limits of the lists.

-- no range is larger than a request may be
abbrev pub IsRequestSized : Frames → Type 0
IsRequestSized r = r.len ≤ MAX_FRAMES

-- the first frames rise, from `from` on
abbrev pub Rises : ℕ → List Frames → Type 0
Rises from [] = Unit {0}
Rises from (r ∷ rs) = (from ≤ r.lo) × Rises (r.lo + 1) rs

pub record AreWindows (windows : List Frames) : Type 0 where
  pub room : length windows ≤ MAX_WINDOWS
  pub rising : Rises 0 windows

pub record IsClient (workers : ℕ) (c : Client) : Type 0 where
  pub worker : c.worker < workers
  pub room : length c.holdings ≤ MAX_HOLDINGS
  pub rising : Rises 0 c.holdings
  pub sized : AllByRecursion IsRequestSized c.holdings

-- the serials rise, above `below` and up to `last`
abbrev pub SerialsRise : ℕ → List Client → ℕ → Type 0
SerialsRise below [] last = below ≤ last
SerialsRise below (c ∷ cs) last = (below < c.id) × SerialsRise c.id cs last

pub record AreClients (workers : ℕ) (clients : List Client) (serial : ℕ) : Type 0 where
  pub room : length clients ≤ MAX_CLIENTS
  pub serials : SerialsRise 0 clients serial
  pub worn : serial ≤ MAX_SERIAL
  pub each : AllByRecursion (IsClient workers) clients

-- both magazines take as many entries as the profile says
pub record IsCache (p : Capacities) (c : Cache) : Type 0 where
  pub loaded : length c.loaded ≤ p.mag
  pub previous : length c.previous ≤ p.mag

-- a cache for each order
pub record AreWorkerCaches (p : Capacities) (cs : List Cache) : Type 0 where
  pub orders : length cs ≡ ORDERS
  pub each : AllByRecursion (IsCache p) cs

-- a list of a depot
pub record IsDepotList (p : Capacities) (los : List ℕ) : Type 0 where
  pub some : 1 ≤ length los
  pub room : length los ≤ p.mag

-- the depot of one order
pub record IsDepot (p : Capacities) (depot : List (List ℕ)) : Type 0 where
  pub room : length depot ≤ p.depot
  pub each : AllByRecursion (IsDepotList p) depot

pub record AreCaches (p : Capacities) (workers : ℕ) (c : Caches) : Type 0 where
  pub each_worker : length c.workers ≡ workers
  pub magazines : AllByRecursion (AreWorkerCaches p) c.workers
  pub orders : length c.depots ≡ ORDERS
  pub depots : AllByRecursion (IsDepot p) c.depots

abbrev pub IsRequestSizedEntry : Entry → Type 0
IsRequestSizedEntry e = (1 ≤ e.len) × (e.len ≤ MAX_FRAMES)

-- a ring at this start count
pub record IsRing (start : ℕ) (entries : List Entry) : Type 0 where
  pub room : length entries ≤ MAX_ENTRIES
  pub rising : CountsRise 0 entries start
  pub sized : AllByRecursion IsRequestSizedEntry entries

pub record IsValid (s : State) : Type 0 where
  pub bounds : IsExtent s.bounds
  pub some_worker : 1 ≤ s.workers
  pub few_workers : s.workers ≤ MAX_WORKERS
  pub windows : AreWindows s.windows
  pub clients : AreClients s.workers s.clients s.serial
  pub caches : AreCaches s.bounds.profile s.workers s.caches
  pub each_ring : length s.rings ≡ s.workers
  pub rings : AllByRecursion (IsRing s.flushes.start) s.rings
  pub flushes : AreSound s.flushes
  pub one_place : IsOnePlace s
