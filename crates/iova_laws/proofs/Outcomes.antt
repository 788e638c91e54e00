-- The result of each step: its reply, and the state that it leaves. The caches after a request are left open here, and so
-- are the windows after a reservation.
use Rattle.std.proofs.Common.{ℕ, ◌≡◌, ◌+◌, ◌-◌, ◌^◌, ◌<◌, ◌==◌, Bool, true, false, List, [], ◌∷◌, length, Option, Some, None, refl, sym, ap, ◌∙◌, subst}
use Rattle.std.specs.Prelude.{find}
use Rattle.std.proofs.lemmas.Bool.{not-false, leb-false, eqb-true}
use Rattle.std.proofs.lemmas.Option.{option_and_then_some, cond_some}
use Rattle.iova_range.specs.declared.refusal.Refusal.{Refusal}
use Rattle.iova_range.specs.declared.refusal.Refusal.TheVariants as refusal
use Rattle.iova_range.specs.Frames.{Frames}
use Rattle.iova_range.specs.Sizes.{need}
use Rattle.iova_model.specs.declared.step.Step.{Step}
use Rattle.iova_model.specs.declared.step.Step.TheVariants as step
use Rattle.iova_model.specs.declared.step.Reply.{Reply}
use Rattle.iova_model.specs.declared.step.Reply.TheVariants as reply
use Rattle.iova_model.specs.declared.step.Point.{Point}
use Rattle.iova_model.specs.Caches.{Caches, without_entries}
use Rattle.iova_model.specs.Flushes.{is_in_flight, with_flight, after_end, flushed_front}
use Rattle.iova_model.specs.Clients.{Client, client_with, client_of, if_owned, change_client, without_client, begins_at, with_holding, with_mark}
use Rattle.iova_model.specs.State.{State}
use Rattle.iova_model.specs.Next
use Rattle.iova_model.specs.Effects.{Marks, client_named, unknown_refusal, RefusalLeaves}
use Rattle.iova_model.proofs.Unless.{AllFail, unless_cases}
use Rattle.iova_laws.proofs.Tests.{unless_each}
use Rattle.iova_laws.proofs.Walks.{walk_walked}

-- the client with this serial, which is the worker's
pub record IsOwned (w id : ℕ) (clients : List Client) (c : Client) : Type 0 where
  pub is : client_with id clients ≡ Some c
  pub worker : c.worker ≡ w

-- What holds of a refusal that leaves the state as it was: it is the one that is due where there is no such client, it marks
-- none, and it isn't one of those that leave another state.
pub record Refuses (s : State) (st : Step) (r : Refusal) : Type 0 where
  pub unknown : (id : ℕ) → client_named st ≡ Some id → client_with id s.clients ≡ None → r ≡ unknown_refusal s st
  pub unmarked : (id : ℕ) → Marks id st (reply.Refused r) → ⊥
  pub leaves : RefusalLeaves s st r s

-- a step, its reply, and the state after it
pub data Outcome (s : State) : Step → Reply → State → Type 0 where
  turned_down : (st : Step) (r : Refusal) → Refuses s st r
      → Outcome s st (reply.Refused r) s
  reserves : (lo hi : ℕ) (window : Frames) (windows : List Frames)
      → Outcome s (step.Reserve lo hi) (reply.Reserved window) (Next.with_windows s windows)
  opens : (w : ℕ) (sac : Bool)
      → Outcome s (step.Open w sac) (reply.Opened (s.serial + 1)) (Next.with_new_client s w sac)
  gives : (w id frames limit : ℕ) (c : Client) (r : Frames) (caches : Caches) → IsOwned w id s.clients c → c.closing ≡ false
      → Outcome s (step.Alloc w id frames limit) (reply.Given r) (Next.with_clients (Next.with_caches s caches) (change_client id (with_holding r) s.clients))
  gives_nothing : (w id frames limit : ℕ) (c : Client) (r : Refusal) (caches : Caches) → IsOwned w id s.clients c → RefusalLeaves s (step.Alloc w id frames limit) r (Next.with_caches s caches)
      → Outcome s (step.Alloc w id frames limit) (reply.Refused r) (Next.with_caches s caches)
  unmaps : (w id lo : ℕ) (c : Client) (r : Frames) → Next.no_worker s w ≡ false → IsOwned w id s.clients c → c.closing ≡ false
      → find (begins_at lo) c.holdings ≡ Some r
      → Outcome s (step.Unmap w id lo) (reply.Queued r) (Next.with_entry (Next.after_drain s w w) w id r)
  begins : length s.flushes.in_flight < 32 → s.flushes.start < 2 ^ 63 - 1
      → Outcome s step.Begin (reply.Begun (s.flushes.start + 1)) (Next.with_flushes s (with_flight s.flushes))
  ends : (n : ℕ) (ok : Bool) → is_in_flight n s.flushes.in_flight ≡ true
      → Outcome s (step.End n ok) reply.Ended (Next.with_flushes s (after_end s.flushes n ok))
  drains : (q w : ℕ)
      → Outcome s (step.Drain q w) (reply.Drained (length (flushed_front s.flushes.finish (Next.ring_at s q)))) (Next.after_drain s q w)
  closes : (w id : ℕ) (c : Client) → IsOwned w id s.clients c
      → Outcome s (step.Close w id) (reply.Marked (length c.holdings)) (Next.with_clients s (change_client id with_mark s.clients))
  queues_lowest : (w id : ℕ) (c : Client) (r : Frames) (rs : List Frames) → Next.no_worker s w ≡ false → IsOwned w id s.clients c → c.holdings ≡ r ∷ rs
      → Outcome s (step.CloseOne w id) (reply.Queued r) (Next.with_entry (Next.after_drain (Next.with_clients s (change_client id with_mark s.clients)) w w) w id r)
  only_marks : (w id : ℕ) (c : Client) → IsOwned w id s.clients c
      → Outcome s (step.CloseOne w id) (reply.Refused refusal.RingFull) (Next.with_clients s (change_client id with_mark s.clients))
  forgets : (w id : ℕ) (c : Client) → IsOwned w id s.clients c → c.holdings ≡ []
      → Outcome s (step.CloseOne w id) reply.Empty (Next.with_clients s (without_client id s.clients))

-- Clients that are found.

-- a client that is found for a worker is its own
pub owned : (w id : ℕ) (clients : List Client) (c : Client) → client_of w id clients ≡ Some c → IsOwned w id clients c
owned w id clients c is =
    option_and_then_some {P = IsOwned w id clients c} (if_owned w) (client_with id clients) c is (λ x found mine.
    let parts = cond_some (x.worker == w) x c mine in
    record {
      is = found ∙ ap (λ y. Some y) parts.1;
      worker = ap (λ y. y.worker) (sym parts.1) ∙ eqb-true _ _ parts.0;
    })

-- a client that is found isn't gone
pub found_not_gone : (w id named : ℕ) (clients : List Client) (c : Client) → IsOwned w id clients c → Some id ≡ Some named → client_with named clients ≡ None → ⊥
found_not_gone w id named clients c own same gone =
    let one : id ≡ named = cc in
    let both : Some c ≡ None = sym own.is ∙ (ap (λ i. client_with i clients) one ∙ gone) in
    cc

-- Each step has an outcome.

-- the outcome of this step, as a property of what `next` gives
abbrev Comes : State → Step → Next.Next → Type 0
Comes s st n = Outcome s st n.reply n.state

module _ (s : State) where
  -- a refusal of a step that names no client
  unnamed : (st : Step) (r : Refusal) → client_named st ≡ None → ((id : ℕ) → Marks id st (reply.Refused r) → ⊥) → RefusalLeaves s st r s → Comes s st (Next.refuse_step r s)
  unnamed st r e unmarked leaves = turned_down st r (record { unknown = λ id named. absurd cc; unmarked = unmarked; leaves = leaves })

  -- a refusal after the client was found
  known : (st : Step) (r : Refusal) (w id : ℕ) (c : Client) → client_named st ≡ Some id → IsOwned w id s.clients c → ((other : ℕ) → Marks other st (reply.Refused r) → ⊥) → RefusalLeaves s st r s
      → Comes s st (Next.refuse_step r s)
  known st r w id c e own unmarked leaves = turned_down st r (record {
    unknown = λ other named gone. absurd (found_not_gone w id other s.clients c own (sym e ∙ named) gone);
    unmarked = unmarked;
    leaves = leaves;
  })

  -- a refusal before the client is looked for, or since there is none
  early : (st : Step) (r : Refusal) → r ≡ unknown_refusal s st → ((id : ℕ) → Marks id st (reply.Refused r) → ⊥) → RefusalLeaves s st r s → Comes s st (Next.refuse_step r s)
  early st r unknown unmarked leaves = turned_down st r (record { unknown = λ id named gone. unknown; unmarked = unmarked; leaves = leaves })

  -- a step whose worker is asked for first
  if_worker : (st : Step) (w : ℕ) (n : Next.Next) → (Next.no_worker s w ≡ true → Comes s st (Next.refuse_step refusal.NoWorker s)) → (Next.no_worker s w ≡ false → Comes s st n)
      → Comes s st (Next.unless (Next.worker_tests s w) s n)
  if_worker st w n none comes = unless_each (λ x. Comes s st x) s (Next.worker_tests s w) n (none, λ e. tt) (λ all. comes all.0)

  -- Windows and clients.

  -- frames become a window
  reserve_comes : (lo hi : ℕ) (m : Point) → Comes s (step.Reserve lo hi) (Next.reserve s lo hi m)
  reserve_comes lo hi m =
      let st = step.Reserve lo hi in
      unless_cases (λ x. Comes s st x) s (Next.reserve_tests s lo hi m) (Next.reserve_window s (Next.from_to lo hi))
      (λ r. unnamed st r refl (λ id h. let none = h.0 in cc) refl) (λ all. reserves lo hi _ _)

  -- a client is opened
  open_comes : (w : ℕ) (sac : Bool) (m : Point) → Comes s (step.Open w sac) (Next.open_client s w sac m)
  open_comes w sac m =
      let st = step.Open w sac in
      let n : Next.Next = record { reply = reply.Opened (s.serial + 1); state = Next.with_new_client s w sac } in
      unless_cases (λ x. Comes s st x) s (Next.open_tests s w m) n (λ r. unnamed st r refl (λ id h. let none = h.0 in cc) refl) (λ all. opens w sac)

  -- Requests.

  -- what the walk found is given, or nothing is
  given_comes : (found : Next.Found) (w id frames limit size : ℕ) (c : Client) (caches : Caches) → IsOwned w id s.clients c → c.closing ≡ false → (found ≡ Next.Nowhere → caches ≡ without_entries s.caches)
      → Comes s (step.Alloc w id frames limit) (Next.give found (Next.with_caches s caches) id size)
  given_comes Next.Nowhere w id frames limit size c caches own still_open nowhere = gives_nothing w id frames limit c refusal.NoSpace caches own (ap (λ x. Next.with_caches s x) (nowhere refl))
  given_comes Next.OutOfMemory w id frames limit size c caches own still_open nowhere = gives_nothing w id frames limit c refusal.NoMemory caches own refl
  given_comes (Next.At lo) w id frames limit size c caches own still_open nowhere = gives w id frames limit c _ caches own still_open

  -- the client is asked for, and its ledger
  alloc_to_comes : (o : Option Client) (w id frames limit : ℕ) (m : Point) → client_of w id s.clients ≡ o → AllFail (Next.alloc_tests s w frames)
      → Comes s (step.Alloc w id frames limit) (Next.alloc_to o s w id (need frames) limit m)
  alloc_to_comes None w id frames limit m is asked = early (step.Alloc w id frames limit) refusal.NoClient (rw (asked.0, asked.1.0, asked.1.1.0) refl) (λ id h. let none = h.0 in cc) refl
  alloc_to_comes (Some c) w id frames limit m is asked =
      let st = step.Alloc w id frames limit in
      let size = need frames in
      let own = owned w id s.clients c is in
      let t = Next.walk s w c.sac size limit m in
      let walked = walk_walked s w c.sac size limit m in
      let known_now = λ (r : Refusal) (leaves : RefusalLeaves s st r s) (b : Bool) (e : b ≡ true). known st r w id c refl own (λ id h. let none = h.0 in cc) leaves in
      unless_each (λ x. Comes s st x) s (Next.ledger_tests c m) (Next.give_from t id size)
      (known_now refusal.Closing refl _, λ e. (known_now refusal.HoldingsFull refl _, λ f. (known_now refusal.NoMemory refl _, λ g. tt)))
      (λ all. subst (λ u. Comes s st (Next.give t.found u id size)) (sym walked.is) (given_comes t.found w id frames limit size c t.state.caches own all.0 walked.nowhere))

  -- a request
  alloc_comes : (w id frames limit : ℕ) (m : Point) → Comes s (step.Alloc w id frames limit) (Next.alloc s w id frames limit m)
  alloc_comes w id frames limit m =
      let st = step.Alloc w id frames limit in
      unless_each (λ x. Comes s st x) s (Next.alloc_tests s w frames) (Next.alloc_to (client_of w id s.clients) s w id (need frames) limit m) (
        (λ e. early st refusal.NoWorker (rw e refl) (λ id h. let none = h.0 in cc) refl),
        λ a. (
          (λ e. early st refusal.Zero (rw (a, e) refl) (λ id h. let none = h.0 in cc) refl),
          λ b. (
            (λ e. early st refusal.TooBig (rw (a, b, e) refl) (λ id h. let none = h.0 in cc) refl),
            λ c. tt,
          ),
        ),
      )
      (λ all. alloc_to_comes (client_of w id s.clients) w id frames limit m refl all)

  -- the holding is asked for, and the ring
  unmap_held_comes : (held : Option Frames) (w id lo : ℕ) (c : Client) → Next.no_worker s w ≡ false → IsOwned w id s.clients c → c.closing ≡ false → find (begins_at lo) c.holdings ≡ held
      → Comes s (step.Unmap w id lo) (Next.unmap_held held s w id)
  unmap_held_comes None w id lo c worker own still_open is = known (step.Unmap w id lo) refusal.NotHeld w id c refl own (λ id h. let none = h.0 in cc) refl
  unmap_held_comes (Some r) w id lo c worker own still_open is =
      let st = step.Unmap w id lo in
      let d = Next.after_drain s w w in
      let n : Next.Next = record { reply = reply.Queued r; state = Next.with_entry d w id r } in
      unless_cases (λ x. Comes s st x) s (Next.full_tests d w) n (λ r. known st r w id c refl own (λ id h. let none = h.0 in cc) refl) (λ all. unmaps w id lo c r worker own still_open is)

  -- an unmap, by its client
  unmap_of_comes : (o : Option Client) (w id lo : ℕ) → Next.no_worker s w ≡ false → client_of w id s.clients ≡ o → Comes s (step.Unmap w id lo) (Next.unmap_of o s w id lo)
  unmap_of_comes None w id lo worker is = early (step.Unmap w id lo) refusal.NoClient (rw worker refl) (λ id h. let none = h.0 in cc) refl
  unmap_of_comes (Some c) w id lo worker is =
      let st = step.Unmap w id lo in
      let own = owned w id s.clients c is in
      let held = find (begins_at lo) c.holdings in
      unless_cases (λ x. Comes s st x) s (Next.closing_tests c) (Next.unmap_held held s w id) (λ r. known st r w id c refl own (λ id h. let none = h.0 in cc) refl)
      (λ all. unmap_held_comes held w id lo c worker own all.0 refl)

  -- Flushes.

  -- a flush begins
  begin_comes : Comes s step.Begin (Next.begin s)
  begin_comes =
      let n : Next.Next = record { reply = reply.Begun (s.flushes.start + 1); state = Next.with_flushes s (with_flight s.flushes) } in
      unless_cases (λ x. Comes s step.Begin x) s (Next.begin_tests s.flushes) n (λ r. unnamed step.Begin r refl (λ id h. let none = h.0 in cc) refl) (λ all.
      begins (leb-false 32 (length s.flushes.in_flight) all.0) (leb-false (2 ^ 63 - 1) s.flushes.start all.1.0))

  -- a flush ends
  end_comes : (number : ℕ) (ok : Bool) → Comes s (step.End number ok) (Next.end s number ok)
  end_comes number ok =
      let st = step.End number ok in
      let n : Next.Next = record { reply = reply.Ended; state = Next.with_flushes s (after_end s.flushes number ok) } in
      unless_cases (λ x. Comes s st x) s (Next.end_tests s.flushes number) n (λ r. unnamed st r refl (λ id h. let none = h.0 in cc) refl) (λ all. ends number ok (not-false _ all.0))

  -- a ring is drained
  drain_comes : (q w : ℕ) → Comes s (step.Drain q w) (Next.drain s q w)
  drain_comes q w =
      let st = step.Drain q w in
      let n : Next.Next = record { reply = reply.Drained (length (flushed_front s.flushes.finish (Next.ring_at s q))); state = Next.after_drain s q w } in
      unless_cases (λ x. Comes s st x) s (Next.drain_tests s q w) n (λ r. unnamed st r refl (λ id h. let none = h.0 in cc) refl) (λ all. drains q w)

  -- Closing.

  -- a client is marked closing
  close_of_comes : (o : Option Client) (w id : ℕ) → Next.no_worker s w ≡ false → client_of w id s.clients ≡ o → Comes s (step.Close w id) (Next.close_of o s id)
  close_of_comes None w id worker is = early (step.Close w id) refusal.NoClient (rw worker refl) (λ id h. let full = h.1 in cc) refl
  close_of_comes (Some c) w id worker is = closes w id c (owned w id s.clients c is)

  -- the lowest holding is queued, or the client goes
  close_lowest_comes : (rs : List Frames) (w id : ℕ) (c : Client) → Next.no_worker s w ≡ false → IsOwned w id s.clients c → c.holdings ≡ rs
      → Comes s (step.CloseOne w id) (Next.close_lowest rs s w id)
  close_lowest_comes [] w id c worker own holdings = forgets w id c own holdings
  close_lowest_comes (r ∷ rs) w id c worker own holdings =
      let st = step.CloseOne w id in
      let t = Next.with_clients s (change_client id with_mark s.clients) in
      let d = Next.after_drain t w w in
      let n : Next.Next = record { reply = reply.Queued r; state = Next.with_entry d w id r } in
      unless_each (λ x. Comes s st x) t (Next.full_tests d w) n ((λ e. only_marks w id c own), λ e. tt) (λ all. queues_lowest w id c r rs worker own holdings)

  -- one step of a closing, by its client
  close_one_of_comes : (o : Option Client) (w id : ℕ) → Next.no_worker s w ≡ false → client_of w id s.clients ≡ o → Comes s (step.CloseOne w id) (Next.close_one_of o s w id)
  close_one_of_comes None w id worker is = early (step.CloseOne w id) refusal.NoClient (rw worker refl) (λ id h. let full = h.1 in cc) refl
  close_one_of_comes (Some c) w id worker is = close_lowest_comes c.holdings w id c worker (owned w id s.clients c is) refl

-- the result of each step
pub outcome : (s : State) (st : Step) (m : Point) → Outcome s st (Next.next s st m).reply (Next.next s st m).state
outcome s (step.Reserve lo hi) m = reserve_comes s lo hi m
outcome s (step.Open w sac) m = open_comes s w sac m
outcome s (step.Alloc w id frames limit) m = alloc_comes s w id frames limit m
outcome s (step.Unmap w id lo) m =
    let st = step.Unmap w id lo in
    let o = client_of w id s.clients in
    if_worker s st w (Next.unmap_of o s w id lo) (λ e. early s st refusal.NoWorker (rw e refl) (λ id h. let none = h.0 in cc) refl) (λ worker. unmap_of_comes s o w id lo worker refl)
outcome s step.Begin m = begin_comes s
outcome s (step.End n ok) m = end_comes s n ok
outcome s (step.Drain q w) m = drain_comes s q w
outcome s (step.Close w id) m =
    let st = step.Close w id in
    let o = client_of w id s.clients in
    if_worker s st w (Next.close_of o s id) (λ e. early s st refusal.NoWorker (rw e refl) (λ id h. let full = h.1 in cc) refl) (λ worker. close_of_comes s o w id worker refl)
outcome s (step.CloseOne w id) m =
    let st = step.CloseOne w id in
    let o = client_of w id s.clients in
    if_worker s st w (Next.close_one_of o s w id) (λ e. early s st refusal.NoWorker (rw e refl) (λ id h. let full = h.1 in cc) refl) (λ worker. close_one_of_comes s o w id worker refl)
