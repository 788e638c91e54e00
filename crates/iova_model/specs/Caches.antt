-- The magazines of the workers, and the depot. Linux 5.15 drivers/iommu/iova.c, from
-- iova_magazine_alloc on.
use Rattle.std.specs.Prelude.{ℕ, ◌≡◌, ◌+◌, ◌-◌, ◌^◌, ◌≤◌, Bool, true, false, not, nat_lt, nat_le, List, [], ◌∷◌, ◌++◌, length, take, map, Option, Some, None, slice_get, slice_index, slice_index_or, slice_set, if◌then◌else◌, remove, swap_remove, ◌⊎◌, replicate}
use Rattle.iova_range.specs.declared.limits.TheConstants.{ORDERS}
use Rattle.iova_range.specs.Frames.{Frames}
use Rattle.iova_range.specs.Sizes.{order_of}
use Rattle.iova_range.specs.Bounds.{Capacities}
use Rattle.iova_model.specs.Fit.{greatest}

-- the two magazines of one worker and one order, each a list of first frames
pub record Cache : Type 0 where
  pub loaded : List ℕ
  pub previous : List ℕ

-- each worker's caches by order, and each order's depot, a list of such lists
pub record Caches : Type 0 where
  pub workers : List (List Cache)
  pub depots : List (List (List ℕ))

-- what one get or put sees: one worker's magazines of one order, and that order's depot
pub record Shelf : Type 0 where
  pub loaded : List ℕ
  pub previous : List ℕ
  pub depot : List (List ℕ)

abbrev pub is_empty : {A : Type 0} → List A → Bool
is_empty [] = true
is_empty (x ∷ xs) = false

-- the last of a list, and the list without it
abbrev pub last_or : {A : Type 0} → A → List A → A
last_or d xs = slice_index_or xs (length xs - 1) d

abbrev pub front : {A : Type 0} → List A → List A
front xs = take (length xs - 1) xs

abbrev pub no_magazines : Cache
no_magazines = record { loaded = []; previous = [] }

-- nothing is cached yet
abbrev pub new_caches : ℕ → Caches
new_caches workers =
    record {
      workers = replicate workers (replicate ORDERS no_magazines);
      depots = replicate ORDERS [];
    }

abbrev pub cache_at : Caches → ℕ → ℕ → Cache
cache_at c w o = slice_index_or (slice_index_or c.workers w []) o no_magazines

abbrev pub shelf_at : Caches → ℕ → ℕ → Shelf
shelf_at c w o = record {
  loaded = (cache_at c w o).loaded;
  previous = (cache_at c w o).previous;
  depot = slice_index_or c.depots o [];
}

abbrev pub with_shelf : Caches → ℕ → ℕ → Shelf → Caches
with_shelf c w o s = record {
  workers = slice_set c.workers w (slice_set (slice_index_or c.workers w []) o
      (record { loaded = s.loaded; previous = s.previous }));
  depots = slice_set c.depots o s.depot;
}

-- the ranges of an order's first frames
abbrev pub of_order : ℕ → List ℕ → List Frames
of_order o los = map (λ lo. record { lo = lo; len = 2 ^ o }) los

-- What a get leaves before it pops: where loaded is empty and previous isn't, they change places;
-- where both are empty, the depot's last list leaves it and becomes loaded. __iova_rcache_get
abbrev pub reload : Shelf → Shelf
reload s =
    if not (is_empty s.loaded) then s else
    if not (is_empty s.previous) then record {
      loaded = s.previous;
      previous = s.loaded;
      depot = s.depot;
    } else
    record { loaded = last_or [] s.depot; previous = []; depot = front s.depot }

-- the place of the last entry whose last frame isn't above the limit. iova_magazine_pop
abbrev pub fitting : List ℕ → ℕ → ℕ → Option ℕ
fitting loaded limit size =
    greatest (λ i. nat_le (slice_index loaded i + size - 1) limit) (length loaded)

-- The entry at this place is given, the last one is written there, and the list is one shorter.
-- Without a place the shelf stays as it is.
abbrev pub pop_entry : Shelf → Option ℕ → Option ℕ × Shelf
pop_entry s None = (None, s)
pop_entry s (Some i) = (
  Some (slice_index s.loaded i),
  record {
    loaded = swap_remove s.loaded i 0;
    previous = s.previous;
    depot = s.depot;
  },
)

abbrev pub get : Shelf → ℕ → ℕ → Option ℕ × Shelf
get s limit size = pop_entry (reload s) (fitting (reload s).loaded limit size)

-- Room for one more: where loaded is full and previous isn't, they change places; where both are
-- full, loaded goes last into the depot, or is sent out where that has as many lists as it takes.
-- __iova_rcache_insert
abbrev pub with_room : Capacities → Shelf → Shelf
with_room p s =
    if nat_lt (length s.loaded) p.mag then s else
    if nat_lt (length s.previous) p.mag
    then record { loaded = s.previous; previous = s.loaded; depot = s.depot } else
    if nat_lt (length s.depot) p.depot
    then record { loaded = []; previous = s.previous; depot = s.depot ++ s.loaded ∷ [] } else
    record { loaded = []; previous = s.previous; depot = s.depot }

abbrev pub put : Capacities → Shelf → ℕ → Shelf
put p s lo =
    record {
      loaded = (with_room p s).loaded ++ lo ∷ [];
      previous = (with_room p s).previous;
      depot = (with_room p s).depot;
    }

-- the list that a put sends out, to become free
abbrev pub sent_out : Capacities → Shelf → List ℕ
sent_out p s =
    if nat_lt (length s.loaded) p.mag then [] else
    if nat_lt (length s.previous) p.mag then [] else
    if nat_lt (length s.depot) p.depot then [] else s.loaded

-- a range goes to a worker's magazines where its length has an order; another becomes free
abbrev pub put_range : Capacities → Caches → ℕ → Frames → Option ℕ → Caches
put_range p c w r None = c
put_range p c w r (Some o) = with_shelf c w o (put p (shelf_at c w o) r.lo)

-- ranges, one after another
abbrev pub put_all : Capacities → Caches → ℕ → List Frames → Caches
put_all p c w [] = c
put_all p c w (r ∷ rs) = put_all p (put_range p c w r (order_of r.len)) w rs

-- What becomes free when a range goes to a worker's magazines: the range itself where its length
-- has no order, else the list that the put sends out.
abbrev pub freed_by_put : Capacities → Caches → ℕ → Frames → Option ℕ → List Frames
freed_by_put p c w r None = r ∷ []
freed_by_put p c w r (Some o) = of_order o (sent_out p (shelf_at c w o))

abbrev pub freed_by_puts : Capacities → Caches → ℕ → List Frames → List Frames
freed_by_puts p c w [] = []
freed_by_puts p c w (r ∷ rs) =
    freed_by_put p c w r (order_of r.len)
    ++ freed_by_puts p (put_range p c w r (order_of r.len)) w rs

-- nothing is cached any more
abbrev pub without_entries : Caches → Caches
without_entries c = record {
  workers = map (λ cs. map (λ cache. no_magazines) cs) c.workers;
  depots = map (λ d. []) c.depots;
}

-- an entry leaves a list
pub record TakesOut (lo : ℕ) (old new : List ℕ) : Type 0 where
  pub place : ℕ
  pub here : slice_get old place ≡ Some lo
  pub others : new ≡ remove old place

-- an entry leaves a list of the depot, and the list goes where it was the only one
abbrev pub without_list : List (List ℕ) → ℕ → List ℕ → List (List ℕ)
without_list depot i [] = remove depot i
without_list depot i (x ∷ xs) = slice_set depot i (x ∷ xs)

pub record TakesOutOfDepot (lo : ℕ) (old new : List (List ℕ)) : Type 0 where
  pub place : ℕ
  pub left : List ℕ
  pub inside : place + 1 ≤ length old
  pub takes : TakesOut lo (slice_index_or old place []) left
  pub others : new ≡ without_list old place left

-- one entry leaves a shelf, from loaded, previous or the depot
abbrev pub TakesOffShelf : ℕ → Shelf → Shelf → Type 0
TakesOffShelf lo s t =
    ((TakesOut lo s.loaded t.loaded) × (t.previous ≡ s.previous) × (t.depot ≡ s.depot))
    ⊎ (((t.loaded ≡ s.loaded) × (TakesOut lo s.previous t.previous) × (t.depot ≡ s.depot))
    ⊎ ((t.loaded ≡ s.loaded) × (t.previous ≡ s.previous) × (TakesOutOfDepot lo s.depot t.depot)))

-- some cached entry leaves the caches; which one is open
pub record TakesEntry (o lo : ℕ) (old new : Caches) : Type 0 where
  pub worker : ℕ
  pub shelf : Shelf
  pub takes : TakesOffShelf lo (shelf_at old worker o) shelf
  pub others : new ≡ with_shelf old worker o shelf

-- one cached entry leaves with its order, or nothing is cached
abbrev pub TakesAny : Caches → Option (ℕ × ℕ) → Caches → Type 0
TakesAny old None new = (without_entries old ≡ old) × (new ≡ old)
TakesAny old (Some entry) new = TakesEntry entry.0 entry.1 old new
