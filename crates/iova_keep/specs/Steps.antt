-- A step of a domain as a keeper sees it.
use Rattle.std.specs.Prelude.{ℕ, ◌≡◌, ◌<◌, ◌≤◌, ◌⊎◌}
use Rattle.iova_range.specs.declared.refusal.Refusal.TheVariants as refusal
use Rattle.iova_range.specs.declared.limits.TheConstants.{MAX_ENTRIES}
use Rattle.iova_model.specs.declared.step.Step.{Step}
use Rattle.iova_model.specs.declared.step.Step.TheVariants as step
use Rattle.iova_model.specs.declared.step.Reply.{Reply}
use Rattle.iova_model.specs.declared.step.Reply.TheVariants as reply
use Rattle.iova_model.specs.declared.step.Point.{Point}
use Rattle.iova_model.specs.State.{State}
use Rattle.iova_model.specs.Next.{next}
use Rattle.iova_model.specs.Effects.{IsGivenTo}

-- The step is answered so and leaves this state, at some memory point. It stays folded above this
-- crate's one door to the domain: what is known of a step there are the laws.
unfoldable pub Takes : State → Step → Reply → State → Type 0
Takes s st r t = (m : Point) × (r ≡ (next s st m).reply) × (t ≡ (next s st m).state)

-- what a request is given has the size that it needs, aligned, and no frame above its limit
abbrev pub IsGivenWithin : Step → Reply → Type 0
IsGivenWithin (step.Alloc w id frames limit) (reply.Given r) = IsGivenTo frames limit r
IsGivenWithin st r = Unit {0}

-- A drain is refused where there is no such ring or worker, and else frees at most a ring of
-- entries.
abbrev pub IsDrainReply : ℕ → Step → Reply → Type 0
IsDrainReply workers (step.Drain q by) (reply.Drained n) =
    (n ≤ MAX_ENTRIES) × (q < workers) × (by < workers)
IsDrainReply workers (step.Drain q by) (reply.Refused e) =
    (e ≡ refusal.NoWorker) × ((workers ≤ q) ⊎ (workers ≤ by))
IsDrainReply workers (step.Drain q by) r = ⊥
IsDrainReply workers st r = Unit {0}
