-- What a step does to the flushes and to the rings.
use Rattle.std.proofs.Common.{ℕ, ◌≡◌, ◌+◌, ◌≤◌, Bool, true, false, length, refl, arith}
use Rattle.std.proofs.lemmas.Bool.{leb-false}
use Rattle.std.proofs.lemmas.List.{length-set}
use Rattle.iova_range.specs.Frames.{Frames, covers}
use Rattle.iova_model.specs.declared.step.Step.{Step}
use Rattle.iova_model.specs.declared.step.Step.TheVariants as step
use Rattle.iova_model.specs.declared.step.Reply.{Reply}
use Rattle.iova_model.specs.declared.step.Reply.TheVariants as reply
use Rattle.iova_model.specs.Flushes.{Flushes, is_in_flight, with_flight, after_end, unflushed_rest}
use Rattle.iova_model.specs.State.{State}
use Rattle.iova_model.specs.Next.{ring_at, after_drain, with_entry, no_worker}
use Rattle.iova_model.specs.Transcript.{Unmaps}
use Rattle.iova_laws.proofs.FlushRings.{waits, waits_in-unflushed, waits_in_push, waits_in_last, waits_kept, waits_put}
use Rattle.iova_laws.proofs.Outcomes.{Outcome, unmaps, begins, ends, drains, queues_lowest}

-- a step leaves the flushes, or it begins or ends one
pub data FlushStep (st : Step) (r : Reply) (old new : Flushes) : Type 0 where
  leaves : new ≡ old → FlushStep st r old new
  begins_one : st ≡ step.Begin → r ≡ reply.Begun (old.start + 1) → new ≡ with_flight old → FlushStep st r old new
  ends_one : (n : ℕ) (ok : Bool) → st ≡ step.End n ok → r ≡ reply.Ended → is_in_flight n old.in_flight ≡ true → new ≡ after_end old n ok → FlushStep st r old new

-- each step does one of these
pub flush_step : (s : State) {st : Step} {r : Reply} {t : State} → Outcome s st r t → FlushStep st r s.flushes t.flushes
flush_step s (begins room fresh) = begins_one refl refl refl
flush_step s (ends n ok flies) = ends_one n ok refl refl flies refl
flush_step s o = leaves refl

-- a drain leaves what waits, where the count isn't below the finish count
drained_waits : (s : State) (q w frame count : ℕ) → s.flushes.finish ≤ count → waits frame count s.rings ≡ true → waits frame count (after_drain s q w).rings ≡ true
drained_waits s q w frame count le h =
    waits_kept frame count s.rings q (unflushed_rest s.flushes.finish (ring_at s q)) (waits_in-unflushed frame count s.flushes.finish (ring_at s q) le) h

-- a holding that is queued leaves what waits
queued_waits : (s : State) (w id : ℕ) (r : Frames) (frame count : ℕ) → waits frame count s.rings ≡ true → waits frame count (with_entry s w id r).rings ≡ true
queued_waits s w id r frame count h = waits_kept frame count s.rings w _ (waits_in_push frame count (ring_at s w) _) h

-- and so does each step
pub still_waits : (s : State) {st : Step} {r : Reply} {t : State} → Outcome s st r t → (frame count : ℕ) → s.flushes.finish ≤ count → waits frame count s.rings ≡ true → waits frame count t.rings ≡ true
still_waits s (unmaps w id lo c r known is still_open held) frame count le h =
    queued_waits (after_drain s w w) w id r frame count (drained_waits s w w frame count le h)
still_waits s (queues_lowest w id c r rs known is held) frame count le h =
    queued_waits (after_drain s w w) w id r frame count (drained_waits s w w frame count le h)
still_waits s (drains q w) frame count le h = drained_waits s q w frame count le h
still_waits s o frame count le h = h

-- a holding that is queued waits, with the start count
just_queued : (s : State) (w id : ℕ) (r : Frames) (frame : ℕ) → length s.rings ≡ s.workers → no_worker s w ≡ false → covers frame r ≡ true
    → waits frame s.flushes.start (with_entry (after_drain s w w) w id r).rings ≡ true
just_queued s w id r frame rings known has =
    let d = after_drain s w w in
    let many : length d.rings ≡ length s.rings = length-set s.rings w _ in
    let below = leb-false s.workers w known in
    waits_put frame s.flushes.start d.rings w _ (omega arith) (waits_in_last frame s.flushes.start (ring_at d w) _ has (omega arith))

-- and so what a step unmaps waits
pub queues_waits : (s : State) {st : Step} {r : Reply} {t : State} → Outcome s st r t → (frame : ℕ) → length s.rings ≡ s.workers → Unmaps frame r → waits frame s.flushes.start t.rings ≡ true
queues_waits s (unmaps w id lo c r known is still_open held) frame rings u = just_queued s w id r frame rings known u
queues_waits s (queues_lowest w id c r rs known is held) frame rings u = just_queued s w id r frame rings known u
queues_waits s o frame rings u = absurd u

-- a step that unmaps leaves the flushes
pub unmapped_flushes : (s : State) {st : Step} {r : Reply} {t : State} → Outcome s st r t → (frame : ℕ) → Unmaps frame r → t.flushes ≡ s.flushes
unmapped_flushes s (begins room fresh) frame u = absurd u
unmapped_flushes s (ends n ok flies) frame u = absurd u
unmapped_flushes s o frame u = refl
