-- Each step is refused, or leaves one of a few states: what holds of each of these holds of each step.
use Rattle.std.proofs.Common.{ℕ, ◌≡◌, ◌+◌, ◌-◌, ◌^◌, ◌<◌, ◌≤◌, ◌==◌, ◌||◌, Bool, true, false, List, [], ◌∷◌, length, Option, Some, None, refl, arith, find}
use Rattle.std.specs.Prelude.{nat_lt, nat_le}
use Rattle.std.specs.List.{list_any}
use Rattle.std.proofs.lemmas.Bool.{or_parts, ltb-false, leb-false, not-false}
use Rattle.std.proofs.lemmas.Bool.Decides.{nat_tests}
use Rattle.iova_range.specs.declared.refusal.Refusal.{Refusal}
use Rattle.iova_range.specs.declared.refusal.Refusal.TheVariants as refusal
use Rattle.iova_range.specs.Frames.{Frames}
use Rattle.iova_range.specs.Sizes.{need}
use Rattle.iova_model.specs.declared.step.Step.{Step}
use Rattle.iova_model.specs.declared.step.Step.TheVariants as step
use Rattle.iova_model.specs.declared.step.Reply.TheVariants as reply
use Rattle.iova_model.specs.declared.step.Point.{Point}
use Rattle.iova_model.specs.Flushes.{is_in_flight, with_flight, after_end, flushed_front}
use Rattle.iova_model.specs.Clients.{Client, client_with, client_of, change_client, without_client, with_mark, begins_at}
use Rattle.iova_model.specs.State.{State}
use Rattle.iova_model.specs.Next.{Next, refuse_step, unless, with_clients, with_flushes, from_to, is_taken, windows_with, reserve_window, with_new_client, give_from, walk, ring_at, after_drain, with_entry, worker_tests, reserve_tests, open_tests, alloc_tests, ledger_tests, drain_tests, full_tests, closing_tests, begin_tests, end_tests, alloc_to, unmap_of, unmap_held, close_of, close_one_of, close_lowest, reserve, open_client, alloc, unmap, begin, end, drain, close, close_one, next}
use Rattle.iova_model.proofs.Unless.{AllFail, unless_cases}
use Rattle.iova_laws.proofs.Tests.{EachRefusal, unless_each}
use Rattle.iova_laws.proofs.Outcomes.{owned}

-- the frames may become a window
pub record MayReserve (s : State) (lo hi : ℕ) : Type 0 where
  pub in_order : lo ≤ hi
  pub start : s.bounds.start ≤ lo
  pub last : hi ≤ s.bounds.last
  pub free : is_taken s (from_to lo hi) ≡ false
  pub room : length (windows_with (from_to lo hi) s.windows) ≤ 64

-- the worker may open a client
pub record MayOpen (s : State) (w : ℕ) : Type 0 where
  pub worker : w < s.workers
  pub worn : s.serial < 2 ^ 63 - 1
  pub room : length s.clients < 1024

-- there is such a worker, and the client is found
pub record AreThere (s : State) (w id : ℕ) (c : Client) : Type 0 where
  pub worker : w < s.workers
  pub found : client_with id s.clients ≡ Some c

-- the client may be given so many frames
pub record MayAlloc (frames : ℕ) (c : Client) : Type 0 where
  pub some : 1 ≤ frames
  pub few : frames ≤ 1048576
  pub room : length c.holdings < 4096

-- a flush may begin
pub record MayBegin (s : State) : Type 0 where
  pub room : length s.flushes.in_flight < 32
  pub worn : s.flushes.start < 2 ^ 63 - 1

-- the worker's ring has room, once it is drained
abbrev pub HasRingRoom : State → ℕ → Type 0
HasRingRoom s w = length (ring_at (after_drain s w w) w) < 255

-- the state with the client marked closing
abbrev pub with_marked : State → ℕ → State
with_marked s id = with_clients s (change_client id with_mark s.clients)

-- there is no space: the walk of a request alone refuses so, and no test does
abbrev pub is_no_space : Refusal → Bool
is_no_space refusal.NoSpace = true
is_no_space r = false

-- what a law has to show of each step
pub record Cases (s : State) (P : Step → Next → Type 0) : Type 0 where
  pub on_refused : (st : Step) (r : Refusal) → is_no_space r ≡ false → P st (refuse_step r s)
  pub on_reserve : (lo hi : ℕ) → MayReserve s lo hi → P (step.Reserve lo hi) (reserve_window s (from_to lo hi))
  pub on_open : (w : ℕ) (sac : Bool) → MayOpen s w → P (step.Open w sac) (record { reply = reply.Opened (s.serial + 1); state = with_new_client s w sac })
  pub on_alloc : (w id frames limit : ℕ) (m : Point) (c : Client) → AreThere s w id c → MayAlloc frames c → P (step.Alloc w id frames limit) (give_from (walk s w c.sac (need frames) limit m) id (need frames))
  pub on_unmap : (w id lo : ℕ) (c : Client) (r : Frames) → AreThere s w id c → find (begins_at lo) c.holdings ≡ Some r → HasRingRoom s w → P (step.Unmap w id lo) (record { reply = reply.Queued r; state = with_entry (after_drain s w w) w id r })
  pub on_begin : MayBegin s → P step.Begin (record { reply = reply.Begun (s.flushes.start + 1); state = with_flushes s (with_flight s.flushes) })
  pub on_end : (n : ℕ) (ok : Bool) → is_in_flight n s.flushes.in_flight ≡ true → P (step.End n ok) (record { reply = reply.Ended; state = with_flushes s (after_end s.flushes n ok) })
  pub on_drain : (q w : ℕ) → q < s.workers → w < s.workers → P (step.Drain q w) (record { reply = reply.Drained (length (flushed_front s.flushes.finish (ring_at s q))); state = after_drain s q w })
  pub on_close : (w id : ℕ) (c : Client) → AreThere s w id c → P (step.Close w id) (record { reply = reply.Marked (length c.holdings); state = with_marked s id })
  pub on_close_last : (w id : ℕ) (c : Client) → AreThere s w id c → c.holdings ≡ [] → P (step.CloseOne w id) (record { reply = reply.Empty; state = with_clients s (without_client id s.clients) })
  pub on_close_full : (w id : ℕ) (c : Client) (r : Refusal) → AreThere s w id c → P (step.CloseOne w id) (refuse_step r (with_marked s id))
  pub on_close_one : (w id : ℕ) (c : Client) (r : Frames) (rs : List Frames) → AreThere s w id c → c.holdings ≡ r ∷ rs → HasRingRoom (with_marked s id) w → P (step.CloseOne w id) (record { reply = reply.Queued r; state = with_entry (after_drain (with_marked s id) w w) w id r })

-- a worker that passes its test, and a client that is found for it
there_from : (s : State) (w id : ℕ) (c : Client) → AllFail (worker_tests s w) → client_of w id s.clients ≡ Some c → AreThere s w id c
there_from s w id c all is =
    record { worker = leb-false _ _ all.0; found = (owned w id s.clients c is).is }

module _ (s : State) (P : Step → Next → Type 0) (cases : Cases s P) where
  -- no test refuses for want of space
  each_refused : (st : Step) (tests : List (Bool × Refusal)) → list_any (λ test. is_no_space test.1) tests ≡ false → EachRefusal (P st) s tests
  each_refused st [] others = tt
  each_refused st ((b, r) ∷ tests) others =
      let parts = or_parts (is_no_space r) (list_any (λ test. is_no_space test.1) tests) others in
      ((λ e. cases.on_refused st r parts.0), (λ e. each_refused st tests parts.1))

  -- the step is refused, or none of its tests passes
  tested : (st : Step) (tests : List (Bool × Refusal)) (n : Next) → list_any (λ test. is_no_space test.1) tests ≡ false → (AllFail tests → P st n) → P st (unless tests s n)
  tested st tests n others taken = unless_each (P st) s tests n (each_refused st tests others) taken

  -- Each step, by its tests.

  -- frames become a window
  reserve_case : (lo hi : ℕ) (m : Point) → P (step.Reserve lo hi) (reserve s lo hi m)
  reserve_case lo hi m =
      tested (step.Reserve lo hi) (reserve_tests s lo hi m) (reserve_window s (from_to lo hi)) refl (λ all.
      let above = or_parts (nat_lt hi lo || nat_lt lo s.bounds.start) (nat_lt s.bounds.last hi) all.0 in
      let below = or_parts (nat_lt hi lo) (nat_lt lo s.bounds.start) above.0 in
      cases.on_reserve lo hi (record {
        in_order = ltb-false _ _ below.0;
        start = ltb-false _ _ below.1;
        last = ltb-false _ _ above.1;
        free = all.1.0;
        room = ltb-false _ _ all.1.1.0;
      }))

  -- a client is opened
  open_case : (w : ℕ) (sac : Bool) (m : Point) → P (step.Open w sac) (open_client s w sac m)
  open_case w sac m =
      tested (step.Open w sac) (open_tests s w m) _ refl (λ all.
      cases.on_open w sac (record { worker = leb-false _ _ all.0; worn = leb-false _ _ all.1.0; room = leb-false _ _ all.1.1.0 }))

  -- a request
  alloc_case : (w id frames limit : ℕ) (m : Point) → P (step.Alloc w id frames limit) (alloc s w id frames limit m)
  alloc_case w id frames limit m =
      tested (step.Alloc w id frames limit) (alloc_tests s w frames) _ refl (λ all. of_client all (client_of w id s.clients) refl)
    where
      of_client : AllFail (alloc_tests s w frames) → (x : Option Client) → client_of w id s.clients ≡ x → P (step.Alloc w id frames limit) (alloc_to x s w id (need frames) limit m)
      of_client all None is = cases.on_refused (step.Alloc w id frames limit) refusal.NoClient refl
      of_client all (Some c) is =
          tested (step.Alloc w id frames limit) (ledger_tests c m) _ refl (λ each.
          let zero : (frames == 0) ≡ false = all.1.0 in
          cases.on_alloc w id frames limit m c (there_from s w id c (all.0, tt) is) (record { some = grind (arith, nat_tests); few = ltb-false _ _ all.1.1.0; room = leb-false _ _ each.1.0 }))

  -- an unmap
  unmap_case : (w id lo : ℕ) → P (step.Unmap w id lo) (unmap s w id lo)
  unmap_case w id lo = tested (step.Unmap w id lo) (worker_tests s w) _ refl (λ all. of_client all (client_of w id s.clients) refl)
    where
      of_holding : (c : Client) → AreThere s w id c → (x : Option Frames) → find (begins_at lo) c.holdings ≡ x → P (step.Unmap w id lo) (unmap_held x s w id)
      of_holding c own None held = cases.on_refused (step.Unmap w id lo) refusal.NotHeld refl
      of_holding c own (Some r) held =
          tested (step.Unmap w id lo) (full_tests (after_drain s w w) w) _ refl (λ all. cases.on_unmap w id lo c r own held (leb-false _ _ all.0))

      of_client : AllFail (worker_tests s w) → (x : Option Client) → client_of w id s.clients ≡ x → P (step.Unmap w id lo) (unmap_of x s w id lo)
      of_client all None is = cases.on_refused (step.Unmap w id lo) refusal.NoClient refl
      of_client all (Some c) is =
          tested (step.Unmap w id lo) (closing_tests c) _ refl (λ each. of_holding c (there_from s w id c all is) (find (begins_at lo) c.holdings) refl)

  -- a flush begins
  begin_case : P step.Begin (begin s)
  begin_case =
      tested step.Begin (begin_tests s.flushes) _ refl (λ all. cases.on_begin (record { room = leb-false _ _ all.0; worn = leb-false _ _ all.1.0 }))

  -- a flush ends
  end_case : (n : ℕ) (ok : Bool) → P (step.End n ok) (end s n ok)
  end_case n ok = tested (step.End n ok) (end_tests s.flushes n) _ refl (λ all. cases.on_end n ok (not-false _ all.0))

  -- a ring is drained
  drain_case : (q w : ℕ) → P (step.Drain q w) (drain s q w)
  drain_case q w =
      tested (step.Drain q w) (drain_tests s q w) _ refl (λ all.
      let both = or_parts (nat_le s.workers q) (nat_le s.workers w) all.0 in
      cases.on_drain q w (leb-false _ _ both.0) (leb-false _ _ both.1))

  -- a client is marked closing
  close_case : (w id : ℕ) → P (step.Close w id) (close s w id)
  close_case w id = tested (step.Close w id) (worker_tests s w) _ refl (λ all. of_client all (client_of w id s.clients) refl)
    where
      of_client : AllFail (worker_tests s w) → (x : Option Client) → client_of w id s.clients ≡ x → P (step.Close w id) (close_of x s id)
      of_client all None is = cases.on_refused (step.Close w id) refusal.NoClient refl
      of_client all (Some c) is = cases.on_close w id c (there_from s w id c all is)

  -- one step of a closing
  close_one_case : (w id : ℕ) → P (step.CloseOne w id) (close_one s w id)
  close_one_case w id = tested (step.CloseOne w id) (worker_tests s w) _ refl (λ all. of_client all (client_of w id s.clients) refl)
    where
      of_holdings : (c : Client) → AreThere s w id c → (rs : List Frames) → c.holdings ≡ rs → P (step.CloseOne w id) (close_lowest rs s w id)
      of_holdings c own [] is = cases.on_close_last w id c own is
      of_holdings c own (r ∷ rs) is =
          unless_cases (P (step.CloseOne w id)) (with_marked s id) (full_tests (after_drain (with_marked s id) w w) w) _ (λ r. cases.on_close_full w id c r own) (λ all. cases.on_close_one w id c r rs own is (leb-false _ _ all.0))

      of_client : AllFail (worker_tests s w) → (x : Option Client) → client_of w id s.clients ≡ x → P (step.CloseOne w id) (close_one_of x s w id)
      of_client all None is = cases.on_refused (step.CloseOne w id) refusal.NoClient refl
      of_client all (Some c) is = of_holdings c (there_from s w id c all is) c.holdings refl

  -- what holds in each case holds of the step
  pub next_cases : (st : Step) (m : Point) → P st (next s st m)
  next_cases (step.Reserve lo hi) m = reserve_case lo hi m
  next_cases (step.Open w sac) m = open_case w sac m
  next_cases (step.Alloc w id frames limit) m = alloc_case w id frames limit m
  next_cases (step.Unmap w id lo) m = unmap_case w id lo
  next_cases step.Begin m = begin_case
  next_cases (step.End n ok) m = end_case n ok
  next_cases (step.Drain q w) m = drain_case q w
  next_cases (step.Close w id) m = close_case w id
  next_cases (step.CloseOne w id) m = close_one_case w id
