-- What a call does to a slot, which holds a domain or none.
use Rattle.std.specs.Prelude.{ℕ, zero, suc, ◌≡◌, ◌≢◌, ◌<◌, ◌≤◌, ◌⊎◌, ◌↔◌, Bool, true, false, Option, None, Some}
use Rattle.iova_range.specs.Bounds.{Extent, AreBounds, first_profile, second_profile}
use Rattle.iova_range.specs.declared.limits.TheConstants.{FRAME_BYTES, MAX_WORKERS, MAX_DEPOT}
use Rattle.iova_range.specs.declared.refusal.Refusal.TheVariants as refusal
use Rattle.iova_range.specs.Refusals.{refusal_number}
use Rattle.iova_model.specs.State.{State, new_domain}
use Rattle.iova_model.specs.declared.step.Step.{Step}
use Rattle.iova_model.specs.declared.step.Step.TheVariants as step
use Rattle.iova_model.specs.declared.step.Reply.{Reply}
use Rattle.iova_model.specs.declared.step.Reply.TheVariants as reply
use Rattle.iova_core.specs.Domain.{IsStepOf}
use Rattle.iova_c.specs.declared.slot.Paged.{Paged}
use Rattle.iova_c.specs.declared.answer.RangeAnswer.{RangeAnswer}
use Rattle.iova_c.specs.declared.answer.NumberAnswer.{NumberAnswer}
use Rattle.iova_c.specs.declared.answer.MappingAnswer.{MappingAnswer}
use Rattle.iova_c.specs.Granules.{IsGranule}
use Rattle.iova_c.specs.Answers.{range_answer, number_answer, word_answer, mapping_answer}

-- C's yes and no: 0 is no, and any other number is yes
abbrev pub is_set : ℕ → Bool
is_set zero = false
is_set (suc n) = true

-- the slot's content with another state of the domain
abbrev pub with_domain : Paged → State → Paged
with_domain p s = record { domain = s; granule = p.granule }

-- The domain of a slot takes the step, with this reply, and keeps its granule. Without a domain the
-- step is refused, and nothing has changed.
abbrev pub HasStepped : Option Paged → Step → Reply → Option Paged → Type 0
HasStepped (Some p) st r new =
    (s' : State) × IsStepOf p.domain st r s' × (new ≡ Some (with_domain p s'))
HasStepped None st r new = (r ≡ reply.Refused refusal.NoDomain) × (new ≡ None)

-- how many bytes a frame of the slot's domain has
abbrev pub granule_of : Option Paged → ℕ
granule_of (Some p) = p.granule
granule_of None = FRAME_BYTES

-- What a call answers of a step that the slot's domain takes, and what it leaves.

abbrev pub RangeStep : Option Paged → Step → RangeAnswer → Option Paged → Type 0
RangeStep old st answer new = (r : Reply) × HasStepped old st r new × (answer ≡ range_answer r)

abbrev pub NumberStep : Option Paged → Step → NumberAnswer → Option Paged → Type 0
NumberStep old st answer new = (r : Reply) × HasStepped old st r new × (answer ≡ number_answer r)

abbrev pub WordStep : Option Paged → Step → ℕ → Option Paged → Type 0
WordStep old st answer new = (r : Reply) × HasStepped old st r new × (answer ≡ word_answer r)

-- the answer is in bytes, by the domain's granule
abbrev pub MappingStep : Option Paged → Step → MappingAnswer → Option Paged → Type 0
MappingStep old st answer new =
    (r : Reply) × HasStepped old st r new × (answer ≡ mapping_answer (granule_of old) r)

-- Single address cycles are 4 GiB in frames of 4 KiB. A client for them is refused in a domain of
-- another granule, and nothing has changed.
pub record OpenStep (old : Option Paged) (worker : ℕ) (sac : Bool) (answer : NumberAnswer)
    (new : Option Paged) : Type 0 where
  pub refused : sac ≡ true → granule_of old ≢ FRAME_BYTES
      → (answer ≡ record { refused = refusal_number refusal.BadProfile; number = 0 }) × (new ≡ old)
  pub opened : (sac ≡ true → granule_of old ≡ FRAME_BYTES)
      → NumberStep old (step.Open worker sac) answer new

-- A domain has from 1 to 16 workers.
abbrev pub IsWorkerCount : ℕ → Type 0
IsWorkerCount workers = (1 ≤ workers) × (workers ≤ MAX_WORKERS)

-- What making a domain answers and leaves: with 0 a new one in the slot, with the number of a
-- refusal what was there. Bounds of the profile and a worker count are refused only for want of
-- memory.
pub record IsMade (granule : ℕ) (old : Option Paged) (extent : Extent) (workers answer : ℕ)
    (new : Option Paged) : Type 0 where
  pub made : answer ≡ 0
      → new ≡ Some (record { domain = new_domain extent workers; granule = granule })
  pub kept : answer ≢ 0 → new ≡ old
  pub bad_window : (answer ≡ refusal_number refusal.BadWindow)
      ↔ (AreBounds extent.profile extent.start extent.last → ⊥)
  pub no_worker : AreBounds extent.profile extent.start extent.last
      → (answer ≡ refusal_number refusal.NoWorker) ↔ (IsWorkerCount workers → ⊥)
  pub no_other : (answer ≡ 0) ⊎ (answer ≡ refusal_number refusal.BadWindow)
      ⊎ (answer ≡ refusal_number refusal.NoWorker) ⊎ (answer ≡ refusal_number refusal.NoMemory)

-- making a domain of the first profile, in frames of so many bytes
pub record HasMade (granule : ℕ) (old : Option Paged) (start last workers answer : ℕ)
    (new : Option Paged) : Type 0 where
  pub bad_granule : (IsGranule granule → ⊥)
      → (answer ≡ refusal_number refusal.BadProfile) × (new ≡ old)
  pub made : IsGranule granule → IsMade granule old
      (record { start = start; last = last; profile = first_profile }) workers answer new

-- making a domain of the second profile, whose depot has this limit
pub record HasMadeSecond (granule : ℕ) (old : Option Paged) (start last workers depot answer : ℕ)
    (new : Option Paged) : Type 0 where
  pub bad_granule : (IsGranule granule → ⊥)
      → (answer ≡ refusal_number refusal.BadProfile) × (new ≡ old)
  pub bad_profile : MAX_DEPOT < depot → (answer ≡ refusal_number refusal.BadProfile) × (new ≡ old)
  pub made : IsGranule granule → depot ≤ MAX_DEPOT → IsMade granule old
      (record { start = start; last = last; profile = second_profile depot }) workers answer new
