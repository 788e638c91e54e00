-- What a tree and the caches have together, and what a call moves between them and others.
use Rattle.std.specs.Prelude.{ℕ, ◌≡◌, ◌+◌, ◌≤◌, List, [], ◌++◌, length, map, sum_by}
use Rattle.iova_range.specs.Frames.{Frames}
use Rattle.iova_range.specs.Sizes.{order_of}
use Rattle.iova_model.specs.Caches.{put_range, put_all}
use Rattle.iova_model.specs.declared.entry.Entry.{Entry}
use Rattle.iova_model.specs.Effects.{cached_ranges}
use Rattle.iova_model.specs.Flushes.{entry_range, flushed_front, unflushed_rest}
use Rattle.iova_tree.specs.Space.{Space, IsSpace}
use Rattle.iova_depot.specs.Cached.{Cached, IsCached, with_contents}

-- the caches after a range went to a worker's magazines, where its length has an order; and after
-- several did
abbrev pub with_range : Cached → ℕ → Frames → Cached
with_range c w r = with_contents c (put_range c.profile c.caches w r (order_of r.len))

abbrev pub with_ranges : Cached → ℕ → List Frames → Cached
with_ranges c w rs = with_contents c (put_all c.profile c.caches w rs)

-- the tree has all of these ranges: whatever ranges weigh, they weigh no more
abbrev pub HasAll : Space → List Frames → Type 0
HasAll tree rs = (weigh : Frames → ℕ) → sum_by weigh rs ≤ sum_by weigh tree.inserted

-- these ranges become free, and nothing else changes
pub record Frees (old new : Space) (freed : List Frames) : Type 0 where
  pub space : IsSpace new
  pub bounds : new.bounds ≡ old.bounds
  pub windows : new.windows ≡ old.windows
  pub balance : (weigh : Frames → ℕ) → sum_by weigh new.inserted + sum_by weigh freed
      ≡ sum_by weigh old.inserted

-- the tree has all that is cached and, beside it, what others have
pub record IsBacked (tree : Space) (caches : Cached) (others : List Frames) : Type 0 where
  pub space : IsSpace tree
  pub cached : IsCached caches
  pub has : (weigh : Frames → ℕ) → sum_by weigh (cached_ranges caches.caches) + sum_by weigh
      others ≤ sum_by weigh tree.inserted

-- What others have grows by `given` and shrinks by `taken`; the tree has exactly what is cached and
-- what they have, before and after.
pub record Exchanges (tree tree' : Space) (caches caches' : Cached)
    (given taken : List Frames) : Type 0 where
  pub space : IsSpace tree'
  pub cached : IsCached caches'
  pub bounds : tree'.bounds ≡ tree.bounds
  pub windows : tree'.windows ≡ tree.windows
  pub profile : caches'.profile ≡ caches.profile
  pub workers : caches'.workers ≡ caches.workers
  pub balance : (weigh : Frames → ℕ) → sum_by weigh tree'.inserted + sum_by weigh
      (cached_ranges caches.caches) + sum_by weigh taken
      ≡ sum_by weigh tree.inserted + sum_by weigh (cached_ranges caches'.caches) + sum_by weigh
      given

-- so many entries have gone from a ring to a worker's magazines, whose counts are below finish
pub record IsDrained (tree tree' : Space) (c c' : Cached) (ring ring' : List Entry)
    (w finish count : ℕ) : Type 0 where
  pub out : List Entry
  pub taken : ring ≡ out ++ ring'
  pub flushed : flushed_front finish ring ≡ out ++ flushed_front finish ring'
  pub left : unflushed_rest finish ring ≡ unflushed_rest finish ring'
  pub counted : count ≡ length out
  pub caches : c' ≡ with_ranges c w (map entry_range out)
  pub exchange : Exchanges tree tree' c c' [] (map entry_range out)
