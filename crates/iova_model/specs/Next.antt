-- What each step answers, and what it leaves.
use Rattle.std.specs.Prelude.{ℕ, ◌+◌, ◌-◌, ◌^◌, ◌==◌, Bool, true, false, not, ◌&&◌, ◌||◌, nat_lt, nat_le, List, [], ◌∷◌, ◌++◌, length, map, filter, Option, Some, None, slice_index_or, slice_set, if◌then◌else◌, find}
use Rattle.std.specs.List.{list_any}
use Rattle.iova_range.specs.declared.limits.TheConstants.{MAX_WINDOWS, MAX_SERIAL, MAX_CLIENTS, SAC_LIMIT, MAX_HOLDINGS, MAX_FRAMES, MAX_ENTRIES, MAX_FLIGHTS}
use Rattle.iova_range.specs.declared.refusal.Refusal.{Refusal}
use Rattle.iova_range.specs.declared.refusal.Refusal.TheVariants as refusal
use Rattle.iova_range.specs.Frames.{Frames, meets, join}
use Rattle.iova_range.specs.Sizes.{need, order_of}
use Rattle.iova_range.specs.Bounds.{Extent}
use Rattle.iova_model.specs.declared.step.Step.{Step}
use Rattle.iova_model.specs.declared.step.Step.TheVariants as step
use Rattle.iova_model.specs.declared.step.Reply.{Reply}
use Rattle.iova_model.specs.declared.step.Reply.TheVariants as reply
use Rattle.iova_model.specs.declared.step.Point.{Point}
use Rattle.iova_model.specs.declared.step.Point.TheVariants as point
use Rattle.iova_model.specs.declared.entry.Entry.{Entry}
use Rattle.iova_model.specs.Fit.{best}
use Rattle.iova_model.specs.Caches.{Caches, shelf_at, with_shelf, get, put_all, without_entries}
use Rattle.iova_model.specs.Flushes.{Flushes, is_in_flight, with_flight, after_end, entry_range, flushed_front, unflushed_rest}
use Rattle.iova_model.specs.Clients.{Client, new_client, client_of, change_client, without_client, insert_rising, begins_at, with_holding, without_holding, with_mark}
use Rattle.iova_model.specs.State.{State, owners, held_ranges}

-- The growth at this point was refused.

abbrev pub point_number : Point → ℕ
point_number point.Never = 0
point_number point.Once = 1
point_number point.Ledger = 2
point_number point.First = 3
point_number point.Second = 4
point_number point.Last = 5

abbrev pub is_at : Point → Point → Bool
is_at here m = point_number here == point_number m

-- a step's reply, and the state after it
pub record Next : Type 0 where
  pub reply : Reply
  pub state : State

abbrev pub refuse_step : Refusal → State → Next
refuse_step r s = record { reply = reply.Refused r; state = s }

-- The first test that passes refuses, and else the step is taken.
abbrev pub unless : List (Bool × Refusal) → State → Next → Next
unless [] s n = n
unless ((b, r) ∷ tests) s n = if b then refuse_step r s else unless tests s n

-- the refusal of the first test that passes, if one does
abbrev pub first_refusal : List (Bool × Refusal) → Option Refusal
first_refusal [] = None
first_refusal ((b, r) ∷ tests) = if b then Some r else first_refusal tests

abbrev pub no_worker : State → ℕ → Bool
no_worker s w = nat_le s.workers w

abbrev pub worker_tests : State → ℕ → List (Bool × Refusal)
worker_tests s w = (no_worker s w, refusal.NoWorker) ∷ []

abbrev pub with_windows : State → List Frames → State
with_windows s windows = record s { windows = windows }

abbrev pub with_clients : State → List Client → State
with_clients s clients = record s { clients = clients }

abbrev pub with_caches : State → Caches → State
with_caches s caches = record s { caches = caches }

abbrev pub with_flushes : State → Flushes → State
with_flushes s flushes = record s { flushes = flushes }

-- Windows: Linux 5.15 drivers/iommu/iova.c: reserve_iova; that there is one window afterwards is
-- our own

-- a window and all that overlap it
abbrev pub union : Frames → List Frames → Frames
union r [] = r
union r (w ∷ ws) = if meets r w then join (union r ws) w else union r ws

-- the union, in place of the windows that overlap
abbrev pub windows_with : Frames → List Frames → List Frames
windows_with r windows = insert_rising (union r windows) (filter (λ w. not (meets r w)) windows)

-- whether a client, a cache or a ring has a frame of the range
abbrev pub is_taken : State → Frames → Bool
is_taken s r = list_any (λ h. meets r h.range) (owners s)

abbrev pub from_to : ℕ → ℕ → Frames
from_to lo hi = record { lo = lo; len = hi + 1 - lo }

-- what the window of the frames lo to hi may be refused for in these bounds and beside these
-- windows, in this order, where somebody has a frame of it or not
abbrev pub window_tests : Extent → List Frames → Bool → ℕ → ℕ → List (Bool × Refusal)
window_tests bounds windows taken lo hi =
    (nat_lt hi lo || nat_lt lo bounds.start || nat_lt bounds.last hi, refusal.BadWindow)
    ∷ (taken, refusal.Taken)
    ∷ (nat_lt MAX_WINDOWS (length (windows_with (from_to lo hi) windows)), refusal.WindowsFull)
    ∷ []

-- what a reserve may be refused for: what its window may be, and at last for want of memory
abbrev pub reserve_tests : State → ℕ → ℕ → Point → List (Bool × Refusal)
reserve_tests s lo hi m =
    window_tests s.bounds s.windows (is_taken s (from_to lo hi)) lo hi
    ++ (is_at point.Once m, refusal.NoMemory) ∷ []

abbrev pub reserve_window : State → Frames → Next
reserve_window s r =
    record {
      reply = reply.Reserved (union r s.windows);
      state = with_windows s (windows_with r s.windows);
    }

abbrev pub reserve : State → ℕ → ℕ → Point → Next
reserve s lo hi m = unless (reserve_tests s lo hi m) s (reserve_window s (from_to lo hi))

-- Clients

abbrev pub with_new_client : State → ℕ → Bool → State
with_new_client s w sac =
    record s { clients = s.clients ++ new_client (s.serial + 1) w sac ∷ []; serial = s.serial + 1 }

abbrev pub open_tests : State → ℕ → Point → List (Bool × Refusal)
open_tests s w m =
    (no_worker s w, refusal.NoWorker)
    ∷ (nat_le MAX_SERIAL s.serial, refusal.Worn)
    ∷ (nat_le MAX_CLIENTS (length s.clients), refusal.ClientsFull)
    ∷ (is_at point.Once m, refusal.NoMemory)
    ∷ []

abbrev pub open_client : State → ℕ → Bool → Point → Next
open_client s w sac m =
    unless (open_tests s w m) s (record
    { reply = reply.Opened (s.serial + 1); state = with_new_client s w sac })

-- Requests: Linux 5.15 drivers/iommu/dma-iommu.c: iommu_dma_alloc_iova, and drivers/iommu/iova.c:
-- alloc_iova_fast; what is emptied before the tree is asked once more, and that a refused growth
-- ends the walk, are our own

-- the result of a try
pub data Found : Type 0 where
  At : (lo : ℕ) → Found
  Nowhere : Found
  OutOfMemory : Found

pub record Tried : Type 0 where
  pub found : Found
  pub state : State

-- the worker's cache is asked
abbrev pub from_cache : State → ℕ → ℕ → ℕ → Option ℕ → Option ℕ × State
from_cache s w size limit None = (None, s)
from_cache s w size limit (Some o) =
    let got = get (shelf_at s.caches w o) limit size in
    (got.0, with_caches s (with_shelf s.caches w o got.1))

-- the greatest place that fits among all that somebody has
abbrev pub best_place : State → ℕ → ℕ → Option ℕ
best_place s size limit = best s.bounds (held_ranges s) size limit

-- a range of the tree, whose insertion may be refused memory
abbrev pub from_tree : State → Option ℕ → Bool → Tried
from_tree s None no_memory = record { found = Nowhere; state = s }
from_tree s (Some lo) no_memory =
    record { found = if no_memory then OutOfMemory else At lo; state = s }

-- where a try found nothing, the tree alone is asked again, with all caches emptied
abbrev pub or_emptied : Found → State → ℕ → ℕ → Bool → Bool → Tried
or_emptied Nowhere s size limit true no_memory =
    let s' = with_caches s (without_entries s.caches) in from_tree s'
    (best_place s' size limit) no_memory
or_emptied Nowhere s size limit false no_memory = record { found = Nowhere; state = s }
or_emptied (At lo) s size limit emptying no_memory = record { found = At lo; state = s }
or_emptied OutOfMemory s size limit emptying no_memory = record { found = OutOfMemory; state = s }

-- a cached range, else the tree's
abbrev pub or_tree : Option ℕ → State → ℕ → ℕ → Bool → Point → Point → Tried
or_tree (Some lo) s size limit emptying here m = record { found = At lo; state = s }
or_tree None s size limit emptying here m =
    let t = from_tree s (best_place s size limit) (is_at here m) in or_emptied t.found t.state size
    limit emptying (is_at point.Last m)

-- one try, whose first growth is at the point `here`
abbrev pub try : State → ℕ → ℕ → ℕ → Bool → Point → Point → Tried
try s w size limit emptying here m =
    let cached = from_cache s w size limit (order_of size) in or_tree cached.0 cached.1 size limit
    emptying here m

-- the second try, where the first found nothing
abbrev pub or_second : Found → State → ℕ → ℕ → ℕ → Point → Tried
or_second Nowhere s w size limit m = try s w size limit true point.Second m
or_second (At lo) s w size limit m = record { found = At lo; state = s }
or_second OutOfMemory s w size limit m = record { found = OutOfMemory; state = s }

abbrev pub walk : State → ℕ → Bool → ℕ → ℕ → Point → Tried
walk s w sac size limit m =
    if sac && nat_lt SAC_LIMIT limit
    then (let t = try s w size SAC_LIMIT false point.First m in or_second t.found t.state w size
    limit m)
    else try s w size limit true point.Second m

abbrev pub give : Found → State → ℕ → ℕ → Next
give Nowhere s id size = refuse_step refusal.NoSpace s
give OutOfMemory s id size = refuse_step refusal.NoMemory s
give (At lo) s id size =
    let r : Frames = record { lo = lo; len = size } in
    record {
      reply = reply.Given r;
      state = with_clients s
          (change_client id (with_holding r) s.clients);
    }

abbrev pub give_from : Tried → ℕ → ℕ → Next
give_from t id size = give t.found t.state id size

abbrev pub ledger_tests : Client → Point → List (Bool × Refusal)
ledger_tests c m =
    (c.closing, refusal.Closing)
    ∷ (nat_le MAX_HOLDINGS (length c.holdings), refusal.HoldingsFull)
    ∷ (is_at point.Ledger m, refusal.NoMemory)
    ∷ []

abbrev pub alloc_to : Option Client → State → ℕ → ℕ → ℕ → ℕ → Point → Next
alloc_to None s w id size limit m = refuse_step refusal.NoClient s
alloc_to (Some c) s w id size limit m =
    unless (ledger_tests c m) s (give_from (walk s w c.sac size limit m) id size)

abbrev pub alloc_tests : State → ℕ → ℕ → List (Bool × Refusal)
alloc_tests s w frames =
    (no_worker s w, refusal.NoWorker)
    ∷ (frames == 0, refusal.Zero)
    ∷ (nat_lt MAX_FRAMES frames, refusal.TooBig)
    ∷ []

abbrev pub alloc : State → ℕ → ℕ → ℕ → ℕ → Point → Next
alloc s w id frames limit m =
    unless (alloc_tests s w frames) s (alloc_to (client_of w id s.clients) s w id (need frames)
    limit m)

-- Rings: Linux 5.15 drivers/iommu/iova.c: queue_iova, fq_ring_free; that a full ring refuses is our
-- own

abbrev pub ring_at : State → ℕ → List Entry
ring_at s q = slice_index_or s.rings q []

-- ring q is drained into the magazines of worker w
abbrev pub after_drain : State → ℕ → ℕ → State
after_drain s q w = record s {
  caches = put_all s.bounds.profile s.caches w
      (map entry_range (flushed_front s.flushes.finish (ring_at s q)));
  rings = slice_set s.rings q (unflushed_rest s.flushes.finish (ring_at s q));
}

abbrev pub drain_tests : State → ℕ → ℕ → List (Bool × Refusal)
drain_tests s q w = (no_worker s q || no_worker s w, refusal.NoWorker) ∷ []

abbrev pub drain : State → ℕ → ℕ → Next
drain s q w =
    unless (drain_tests s q w) s (record {
      reply = reply.Drained (length (flushed_front s.flushes.finish (ring_at s q)));
      state = after_drain s q w;
    })

-- a holding goes last into the worker's ring, with the start count
abbrev pub with_entry : State → ℕ → ℕ → Frames → State
with_entry s w id r = record s {
  clients = change_client id (without_holding r.lo) s.clients;
  rings = slice_set s.rings w (ring_at s w
      ++ record { lo = r.lo; len = r.len; count = s.flushes.start } ∷ []);
}

abbrev pub full_tests : State → ℕ → List (Bool × Refusal)
full_tests s w = (nat_le MAX_ENTRIES (length (ring_at s w)), refusal.RingFull) ∷ []

-- The worker's own ring is drained first. One that is still full has given nothing up, so a refusal
-- leaves the state.
abbrev pub queue : State → ℕ → ℕ → Frames → Next
queue s w id r =
    let d = after_drain s w w in unless (full_tests d w) s
    (record { reply = reply.Queued r; state = with_entry d w id r })

abbrev pub unmap_held : Option Frames → State → ℕ → ℕ → Next
unmap_held None s w id = refuse_step refusal.NotHeld s
unmap_held (Some r) s w id = queue s w id r

abbrev pub closing_tests : Client → List (Bool × Refusal)
closing_tests c = (c.closing, refusal.Closing) ∷ []

abbrev pub unmap_of : Option Client → State → ℕ → ℕ → ℕ → Next
unmap_of None s w id lo = refuse_step refusal.NoClient s
unmap_of (Some c) s w id lo =
    unless (closing_tests c) s (unmap_held (find (begins_at lo) c.holdings) s w id)

abbrev pub unmap : State → ℕ → ℕ → ℕ → Next
unmap s w id lo = unless (worker_tests s w) s (unmap_of (client_of w id s.clients) s w id lo)

-- Flushes: the start count of Linux 5.15 drivers/iommu/iova.c: iova_domain_flush; several in flight
-- are our own

abbrev pub begin_tests : Flushes → List (Bool × Refusal)
begin_tests f =
    (nat_le MAX_FLIGHTS (length f.in_flight), refusal.FlightsFull)
    ∷ (nat_le MAX_SERIAL f.start, refusal.Worn)
    ∷ []

abbrev pub begin : State → Next
begin s =
    unless (begin_tests s.flushes) s (record
    { reply = reply.Begun (s.flushes.start + 1); state = with_flushes s (with_flight s.flushes) })

abbrev pub end_tests : Flushes → ℕ → List (Bool × Refusal)
end_tests f n = (not (is_in_flight n f.in_flight), refusal.NoFlight) ∷ []

abbrev pub end : State → ℕ → Bool → Next
end s n ok =
    unless (end_tests s.flushes n) s (record
    { reply = reply.Ended; state = with_flushes s (after_end s.flushes n ok) })

-- Closing: own

abbrev pub close_of : Option Client → State → ℕ → Next
close_of None s id = refuse_step refusal.NoClient s
close_of (Some c) s id =
    record {
      reply = reply.Marked (length c.holdings);
      state = with_clients s (change_client id with_mark s.clients);
    }

abbrev pub close : State → ℕ → ℕ → Next
close s w id = unless (worker_tests s w) s (close_of (client_of w id s.clients) s id)

-- the lowest holding is queued, or the client goes; where the ring is full, the mark stays
abbrev pub close_lowest : List Frames → State → ℕ → ℕ → Next
close_lowest [] s w id =
    record { reply = reply.Empty; state = with_clients s (without_client id s.clients) }
close_lowest (r ∷ rs) s w id = queue (with_clients s (change_client id with_mark s.clients)) w id r

abbrev pub close_one_of : Option Client → State → ℕ → ℕ → Next
close_one_of None s w id = refuse_step refusal.NoClient s
close_one_of (Some c) s w id = close_lowest c.holdings s w id

abbrev pub close_one : State → ℕ → ℕ → Next
close_one s w id = unless (worker_tests s w) s (close_one_of (client_of w id s.clients) s w id)

-- The reply to a step, and the state after it, where the growth at this point was refused. A point
-- that the step doesn't reach changes nothing.
abbrev pub next : State → Step → Point → Next
next s (step.Reserve lo hi) m = reserve s lo hi m
next s (step.Open w sac) m = open_client s w sac m
next s (step.Alloc w id frames limit) m = alloc s w id frames limit m
next s (step.Unmap w id lo) m = unmap s w id lo
next s step.Begin m = begin s
next s (step.End n ok) m = end s n ok
next s (step.Drain ring by) m = drain s ring by
next s (step.Close w id) m = close s w id
next s (step.CloseOne w id) m = close_one s w id
