-- How a drain is answered.
use Rattle.std.proofs.Common.{ℕ, zero, suc, ◌≡◌, inl, inr, ◌<◌, ◌≤◌, ◌||◌, Bool, true, false, List, [], ◌∷◌, length, refl, arith}
use Rattle.std.specs.Prelude.{nat_lt, slice_index_or}
use Rattle.std.specs.List.{AllByRecursion}
use Rattle.std.proofs.lemmas.Bool.{cond_both}
use Rattle.std.proofs.lemmas.Bool.Decides.{nat_tests}
use Rattle.iova_range.specs.declared.limits.TheConstants.{MAX_ENTRIES}
use Rattle.iova_range.specs.declared.refusal.Refusal.TheVariants as refusal
use Rattle.iova_model.specs.declared.entry.Entry.{Entry}
use Rattle.iova_model.specs.declared.step.Step.{Step}
use Rattle.iova_model.specs.declared.step.Step.TheVariants as step
use Rattle.iova_model.specs.declared.step.Reply.{Reply}
use Rattle.iova_model.specs.declared.step.Reply.TheVariants as reply
use Rattle.iova_model.specs.declared.step.Point.{Point}
use Rattle.iova_model.specs.Flushes.{flushed_front}
use Rattle.iova_model.specs.State.{State}
use Rattle.iova_model.specs.Valid.{IsValid, IsRing}
use Rattle.iova_model.specs.Next.{Next, next, no_worker, ring_at, unless}
use Rattle.iova_keep.specs.Steps.{IsDrainReply}

-- no more leave a ring than are in it
flushed_few : (finish : ℕ) (es : List Entry) → length (flushed_front finish es) ≤ length es
flushed_few finish [] = omega arith
flushed_few finish (e ∷ es) =
    let h = flushed_few finish es in
    cond_both (nat_lt e.count finish) (e ∷ flushed_front finish es) [] (λ l. length l ≤ suc (length es)) (λ yes. omega (arith, h)) (λ no. omega arith)

ring_few : (start : ℕ) (rings : List (List Entry)) (q : ℕ) → AllByRecursion (IsRing start) rings → length (slice_index_or rings q []) ≤ MAX_ENTRIES
ring_few start [] q all = omega arith
ring_few start (r ∷ rings) zero all = all.0.room
ring_few start (r ∷ rings) (suc q) all = ring_few start rings q all.1

answered : (s : State) (q by : ℕ) (b c : Bool) → no_worker s q ≡ b → no_worker s by ≡ c → length (flushed_front s.flushes.finish (ring_at s q)) ≤ MAX_ENTRIES
    → (n : Next) → n.reply ≡ reply.Drained (length (flushed_front s.flushes.finish (ring_at s q)))
    → IsDrainReply s.workers (step.Drain q by) (unless ((b || c, refusal.NoWorker) ∷ []) s n).reply
answered s q by true c e f few n is = (refl, inl (let x = e in grind (arith, nat_tests)))
answered s q by false true e f few n is = (refl, inr (let x = f in grind (arith, nat_tests)))
answered s q by false false e f few n is =
    let ring : q < s.workers = let x = e in grind (arith, nat_tests) in
    let worker : by < s.workers = let x = f in grind (arith, nat_tests) in
    rw is (few, ring, worker)

pub drain_answered : (s : State) (q by : ℕ) (m : Point) → IsValid s → IsDrainReply s.workers (step.Drain q by) (next s (step.Drain q by) m).reply
drain_answered s q by m valid =
    let few : length (flushed_front s.flushes.finish (ring_at s q)) ≤ MAX_ENTRIES =
    let a = flushed_few s.flushes.finish (ring_at s q) in let b = ring_few s.flushes.start s.rings q valid.rings in omega (arith, a, b) in
    answered s q by (no_worker s q) (no_worker s by) refl refl few _ refl

-- of any step
pub drain_replies : (s : State) (st : Step) (m : Point) (r : Reply) → IsValid s → r ≡ (next s st m).reply → IsDrainReply s.workers st r
drain_replies s (step.Drain q by) m r valid e = rw e (drain_answered s q by m valid)
drain_replies s (step.Reserve lo hi) m r valid e = tt
drain_replies s (step.Open w sac) m r valid e = tt
drain_replies s (step.Alloc w id frames limit) m r valid e = tt
drain_replies s (step.Unmap w id lo) m r valid e = tt
drain_replies s step.Begin m r valid e = tt
drain_replies s (step.End n ok) m r valid e = tt
drain_replies s (step.Close w id) m r valid e = tt
drain_replies s (step.CloseOne w id) m r valid e = tt
