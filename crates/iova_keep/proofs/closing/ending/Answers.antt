use Rattle.std.proofs.Common.{◌≡◌, ◌⊎◌, inl, inr, ℕ, Bool, Option, Some, Ok}
use Rattle.iova_range.specs.declared.refusal.Refusal.TheVariants as refusal
use Rattle.iova_model.specs.declared.step.Reply.{Reply}
use Rattle.iova_model.specs.declared.step.Reply.TheVariants as reply
use Rattle.iova_keep.specs.declared.ending.Ending.TheVariants as ending
use Rattle.iova_keep.specs.declared.ending.Why.{Why}
use Rattle.iova_keep.specs.declared.ending.Why.TheVariants as why
use Rattle.iova_keep.specs.Events.{Answered, flights_full, worn}
use Rattle.iova_keep.proofs.closing.ending.Goals as goal

of_begun : (queued left : ℕ) (flushed : Option Bool) (b : Reply) (w : Why) → ((b ≡ reply.Refused refusal.FlightsFull) × (w ≡ why.FlightsFull)) ⊎ ((b ≡ reply.Refused refusal.Worn) × (w ≡ why.Worn))
    → Answered queued left flushed (Some (reply.Refused refusal.RingFull)) (Some b) (Ok (ending.Waiting left w))
of_begun queued left flushed b w (inl h) = rw (h.0, h.1) flights_full
of_begun queued left flushed b w (inr h) = rw (h.0, h.1) worn

pub returns-in-Some : goal.returns-in-Some
returns-in-Some c =
    let full = rw c.in-Some.is at c.requires.begun in
    rw (full.0, c.in-Some.is) (of_begun _ _ _ _ _ c.not_begun.ensures)
