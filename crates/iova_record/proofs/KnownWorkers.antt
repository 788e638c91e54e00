-- No step of a worker that there is, is refused by NoWorker.
use Rattle.std.proofs.Common.{ℕ, ◌≡◌, ◌≢◌, ◌<◌, ◌==◌, Bool, true, false, List, [], ◌∷◌, length, Option, Some, None, arith}
use Rattle.std.specs.Prelude.{nat_lt, nat_le, find, if◌then◌else◌}
use Rattle.std.proofs.lemmas.Bool.Decides.{nat_tests}
use Rattle.iova_range.specs.declared.limits.TheConstants.{MAX_SERIAL, MAX_CLIENTS, MAX_HOLDINGS, MAX_FRAMES, MAX_ENTRIES}
use Rattle.iova_range.specs.declared.refusal.Refusal.{Refusal}
use Rattle.iova_range.specs.declared.refusal.Refusal.TheVariants as refusal
use Rattle.iova_range.specs.Frames.{Frames}
use Rattle.iova_range.specs.Sizes.{need}
use Rattle.iova_model.specs.declared.step.Step.{Step}
use Rattle.iova_model.specs.declared.step.Step.TheVariants as step
use Rattle.iova_model.specs.declared.step.Reply.{Reply}
use Rattle.iova_model.specs.declared.step.Reply.TheVariants as reply
use Rattle.iova_model.specs.declared.step.Point.{Point}
use Rattle.iova_model.specs.declared.step.Point.TheVariants as point
use Rattle.iova_model.specs.Clients.{Client, client_of, begins_at, change_client, with_mark}
use Rattle.iova_model.specs.State.{State}
use Rattle.iova_model.specs.Effects.{worker_of}
use Rattle.iova_model.specs.Next

abbrev IsKnown : Next.Next → Type 0
IsKnown n = n.reply ≢ reply.Refused refusal.NoWorker

-- a test that refuses by something else
or_refused : (b : Bool) (r : Refusal) (s : State) (n : Next.Next) → r ≢ refusal.NoWorker → IsKnown n → IsKnown (if b then Next.refuse_step r s else n)
or_refused true r s n other rest = λ e. other cc
or_refused false r s n other rest = rest

open_known : (s : State) (w : ℕ) (sac : Bool) (m : Point) → Next.no_worker s w ≡ false → IsKnown (Next.open_client s w sac m)
open_known s w sac m is =
    rw is (or_refused (nat_le MAX_SERIAL s.serial) refusal.Worn s _ (λ e. cc)
    (or_refused (nat_le MAX_CLIENTS (length s.clients)) refusal.ClientsFull s _ (λ e. cc)
    (or_refused (Next.is_at point.Once m) refusal.NoMemory s _ (λ e. cc) (λ e. cc))))

given_known : (found : Next.Found) (s : State) (id size : ℕ) → IsKnown (Next.give found s id size)
given_known Next.Nowhere s id size = λ e. cc
given_known Next.OutOfMemory s id size = λ e. cc
given_known (Next.At lo) s id size = λ e. cc

alloc_to_known : (o : Option Client) (s : State) (w id size limit : ℕ) (m : Point) → IsKnown (Next.alloc_to o s w id size limit m)
alloc_to_known None s w id size limit m = λ e. cc
alloc_to_known (Some c) s w id size limit m =
    let t = Next.walk s w c.sac size limit m in
    or_refused c.closing refusal.Closing s _ (λ e. cc)
    (or_refused (nat_le MAX_HOLDINGS (length c.holdings)) refusal.HoldingsFull s _ (λ e. cc)
    (or_refused (Next.is_at point.Ledger m) refusal.NoMemory s _ (λ e. cc) (given_known t.found t.state id size)))

alloc_known : (s : State) (w id frames limit : ℕ) (m : Point) → Next.no_worker s w ≡ false → IsKnown (Next.alloc s w id frames limit m)
alloc_known s w id frames limit m is =
    rw is (or_refused (frames == 0) refusal.Zero s _ (λ e. cc)
    (or_refused (nat_lt MAX_FRAMES frames) refusal.TooBig s _ (λ e. cc) (alloc_to_known (client_of w id s.clients) s w id (need frames) limit m)))

queue_known : (s : State) (w id : ℕ) (r : Frames) → IsKnown (Next.queue s w id r)
queue_known s w id r = or_refused (nat_le MAX_ENTRIES (length (Next.ring_at (Next.after_drain s w w) w))) refusal.RingFull s _ (λ e. cc) (λ e. cc)

unmap_held_known : (o : Option Frames) (s : State) (w id : ℕ) → IsKnown (Next.unmap_held o s w id)
unmap_held_known None s w id = λ e. cc
unmap_held_known (Some r) s w id = queue_known s w id r

unmap_of_known : (o : Option Client) (s : State) (w id lo : ℕ) → IsKnown (Next.unmap_of o s w id lo)
unmap_of_known None s w id lo = λ e. cc
unmap_of_known (Some c) s w id lo = or_refused c.closing refusal.Closing s _ (λ e. cc) (unmap_held_known (find (begins_at lo) c.holdings) s w id)

unmap_known : (s : State) (w id lo : ℕ) → Next.no_worker s w ≡ false → IsKnown (Next.unmap s w id lo)
unmap_known s w id lo is = rw is (unmap_of_known (client_of w id s.clients) s w id lo)

close_of_known : (o : Option Client) (s : State) (id : ℕ) → IsKnown (Next.close_of o s id)
close_of_known None s id = λ e. cc
close_of_known (Some c) s id = λ e. cc

close_known : (s : State) (w id : ℕ) → Next.no_worker s w ≡ false → IsKnown (Next.close s w id)
close_known s w id is = rw is (close_of_known (client_of w id s.clients) s id)

close_lowest_known : (rs : List Frames) (s : State) (w id : ℕ) → IsKnown (Next.close_lowest rs s w id)
close_lowest_known [] s w id = λ e. cc
close_lowest_known (r ∷ rs) s w id = queue_known (Next.with_clients s (change_client id with_mark s.clients)) w id r

close_one_of_known : (o : Option Client) (s : State) (w id : ℕ) → IsKnown (Next.close_one_of o s w id)
close_one_of_known None s w id = λ e. cc
close_one_of_known (Some c) s w id = close_lowest_known c.holdings s w id

close_one_known : (s : State) (w id : ℕ) → Next.no_worker s w ≡ false → IsKnown (Next.close_one s w id)
close_one_known s w id is = rw is (close_one_of_known (client_of w id s.clients) s w id)

there : (s : State) (v w : ℕ) → ◌≡◌ {A = Option ℕ} (Some v) (Some w) → w < s.workers → Next.no_worker s v ≡ false
there s v w e below = let same : v ≡ w = cc in grind (arith, nat_tests)

pub known : (s : State) (st : Step) (m : Point) (r : Reply) → r ≡ (Next.next s st m).reply → (w : ℕ) → worker_of st ≡ Some w → w < s.workers
    → r ≢ reply.Refused refusal.NoWorker
known s (step.Open v sac) m r is w e below = rw is (open_known s v sac m (there s v w e below))
known s (step.Alloc v id frames limit) m r is w e below = rw is (alloc_known s v id frames limit m (there s v w e below))
known s (step.Unmap v id lo) m r is w e below = rw is (unmap_known s v id lo (there s v w e below))
known s (step.Close v id) m r is w e below = rw is (close_known s v id (there s v w e below))
known s (step.CloseOne v id) m r is w e below = rw is (close_one_known s v id (there s v w e below))
known s (step.Reserve lo hi) m r is w e below = absurd cc
known s step.Begin m r is w e below = absurd cc
known s (step.End n ok) m r is w e below = absurd cc
known s (step.Drain q by) m r is w e below = absurd cc
