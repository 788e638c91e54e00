-- The result of a step, refusal by refusal.
use Rattle.std.proofs.Common.{ℕ, ◌≡◌, ◌-◌, ◌+◌, ◌^◌, Bool, true, false, [], ◌∷◌, length, Option, Some, None, refl, ap, ◌∙◌}
use Rattle.std.specs.Prelude.{nat_le}
use Rattle.iova_range.specs.declared.refusal.Refusal.{Refusal}
use Rattle.iova_range.specs.declared.refusal.Refusal.TheVariants as refusal
use Rattle.iova_range.specs.Sizes.{need}
use Rattle.iova_model.specs.declared.step.Reply.TheVariants as reply
use Rattle.iova_model.specs.declared.step.Point.{Point}
use Rattle.iova_model.specs.declared.step.Point.TheVariants as point
use Rattle.iova_model.specs.Clients.{Client, client_of}
use Rattle.iova_model.specs.State.{State}
use Rattle.iova_model.specs.Next.{Next, refuse_step, unless, first_refusal, no_worker, is_at, open_client, with_new_client, alloc_tests, alloc, alloc_to, give_from, walk}
use Rattle.iova_model.proofs.Unless.{unless_refused, unless_taken, unless-append}

-- `Open`: refused before memory is asked for
abbrev pub open_refusal_of : State → Option Refusal
open_refusal_of s = first_refusal ((nat_le (2 ^ 63 - 1) s.serial, refusal.Worn) ∷ (nat_le 1024 (length s.clients), refusal.ClientsFull) ∷ [])

module _ (s : State) (w : ℕ) (sac : Bool) where
  pub open_no_worker : (m : Point) → no_worker s w ≡ true → open_client s w sac m ≡ refuse_step refusal.NoWorker s
  open_no_worker m is = rw is refl

  pub open_refused : (m : Point) (r : Refusal) → no_worker s w ≡ false → open_refusal_of s ≡ Some r → open_client s w sac m ≡ refuse_step r s
  open_refused m r known is =
      let tests = (no_worker s w, refusal.NoWorker) ∷ (nat_le (2 ^ 63 - 1) s.serial, refusal.Worn) ∷ (nat_le 1024 (length s.clients), refusal.ClientsFull) ∷ [] in
      let memory = (is_at point.Once m, refusal.NoMemory) ∷ [] in
      let n : Next = record { reply = reply.Opened (s.serial + 1); state = with_new_client s w sac } in
      unless-append tests memory s n ∙ unless_refused tests r s (unless memory s n) (rw known is)

  open_none : (m : Point) → no_worker s w ≡ false → open_refusal_of s ≡ None → open_client s w sac m ≡ unless ((is_at point.Once m, refusal.NoMemory) ∷ []) s (record { reply = reply.Opened (s.serial + 1); state = with_new_client s w sac })
  open_none m known is =
      let tests = (no_worker s w, refusal.NoWorker) ∷ (nat_le (2 ^ 63 - 1) s.serial, refusal.Worn) ∷ (nat_le 1024 (length s.clients), refusal.ClientsFull) ∷ [] in
      let memory = (is_at point.Once m, refusal.NoMemory) ∷ [] in
      let n : Next = record { reply = reply.Opened (s.serial + 1); state = with_new_client s w sac } in
      unless-append tests memory s n ∙ unless_taken tests s (unless memory s n) (rw known is)

  pub open_no_memory : no_worker s w ≡ false → open_refusal_of s ≡ None → open_client s w sac point.Once ≡ refuse_step refusal.NoMemory s
  open_no_memory known is = open_none point.Once known is

  pub open_taken : no_worker s w ≡ false → open_refusal_of s ≡ None → open_client s w sac point.Never ≡ record { reply = reply.Opened (s.serial + 1); state = with_new_client s w sac }
  open_taken known is = open_none point.Never known is

-- `Alloc`
module _ (s : State) (w id frames limit : ℕ) where
  pub alloc_refused : (m : Point) (r : Refusal) → first_refusal (alloc_tests s w frames) ≡ Some r → alloc s w id frames limit m ≡ refuse_step r s
  alloc_refused m r is = unless_refused (alloc_tests s w frames) r s _ is

  alloc_none : (m : Point) (o : Option Client) → first_refusal (alloc_tests s w frames) ≡ None → client_of w id s.clients ≡ o → alloc s w id frames limit m ≡ alloc_to o s w id (need frames) limit m
  alloc_none m o is client = unless_taken (alloc_tests s w frames) s _ is ∙ ap (λ c. alloc_to c s w id (need frames) limit m) client

  pub alloc_no_client : (m : Point) → first_refusal (alloc_tests s w frames) ≡ None → client_of w id s.clients ≡ None → alloc s w id frames limit m ≡ refuse_step refusal.NoClient s
  alloc_no_client m is client = alloc_none m None is client

  abbrev pub room_refusal_of : Client → Option Refusal
  room_refusal_of c = first_refusal ((c.closing, refusal.Closing) ∷ (nat_le 4096 (length c.holdings), refusal.HoldingsFull) ∷ [])

  pub alloc_no_room : (m : Point) (c : Client) (r : Refusal) → first_refusal (alloc_tests s w frames) ≡ None → client_of w id s.clients ≡ Some c → room_refusal_of c ≡ Some r → alloc s w id frames limit m ≡ refuse_step r s
  alloc_no_room m c r is client room =
      let tests = (c.closing, refusal.Closing) ∷ (nat_le 4096 (length c.holdings), refusal.HoldingsFull) ∷ [] in
      let memory = (is_at point.Ledger m, refusal.NoMemory) ∷ [] in
      let n = give_from (walk s w c.sac (need frames) limit m) id (need frames) in
      alloc_none m (Some c) is client ∙ (unless-append tests memory s n ∙ unless_refused tests r s (unless memory s n) room)

  alloc_room : (m : Point) (c : Client) → first_refusal (alloc_tests s w frames) ≡ None → client_of w id s.clients ≡ Some c → room_refusal_of c ≡ None
      → alloc s w id frames limit m ≡ unless ((is_at point.Ledger m, refusal.NoMemory) ∷ []) s (give_from (walk s w c.sac (need frames) limit m) id (need frames))
  alloc_room m c is client room =
      let tests = (c.closing, refusal.Closing) ∷ (nat_le 4096 (length c.holdings), refusal.HoldingsFull) ∷ [] in
      let memory = (is_at point.Ledger m, refusal.NoMemory) ∷ [] in
      let n = give_from (walk s w c.sac (need frames) limit m) id (need frames) in
      alloc_none m (Some c) is client ∙ (unless-append tests memory s n ∙ unless_taken tests s (unless memory s n) room)

  pub alloc_ledger_no_memory : (c : Client) → first_refusal (alloc_tests s w frames) ≡ None → client_of w id s.clients ≡ Some c → room_refusal_of c ≡ None → alloc s w id frames limit point.Ledger ≡ refuse_step refusal.NoMemory s
  alloc_ledger_no_memory c is client room = alloc_room point.Ledger c is client room

  pub alloc_walks : (m : Point) (c : Client) → first_refusal (alloc_tests s w frames) ≡ None → client_of w id s.clients ≡ Some c → room_refusal_of c ≡ None → is_at point.Ledger m ≡ false
      → alloc s w id frames limit m ≡ give_from (walk s w c.sac (need frames) limit m) id (need frames)
  alloc_walks m c is client room not_at_ledger = alloc_room m c is client room ∙ rw not_at_ledger refl
