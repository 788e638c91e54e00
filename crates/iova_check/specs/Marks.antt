-- Marks, and the stages that they show.
use Rattle.std.specs.Prelude.{ℕ, ◌≡◌, ◌<◌, zero, suc, Option, None, unwrap_or}
use Rattle.std.specs.Ordering.{nat_cmp}
use Rattle.std.specs.BTreeMap.{get}
use Rattle.iova_check.specs.declared.stage.Stage.{Stage}
use Rattle.iova_check.specs.declared.stage.Stage.TheVariants as stage
use Rattle.iova_check.specs.declared.stages.Stages.{Stages}

-- the stage of the last mark up to the frame; before the first one frames are free
abbrev pub stage_by : (ℕ → Option Stage) → ℕ → Stage
stage_by mark zero = unwrap_or (mark zero) stage.Free
stage_by mark (suc f) = unwrap_or (mark (suc f)) (stage_by mark f)

abbrev pub stage_at : Stages → ℕ → Stage
stage_at s f = stage_by (get nat_cmp s.marks) f

-- the stage before a frame; before frame 0 as before the first mark
abbrev pub before_by : (ℕ → Option Stage) → ℕ → Stage
before_by mark zero = stage.Free
before_by mark (suc f) = stage_by mark f

abbrev pub shown_before : Stages → ℕ → Stage
shown_before s f = before_by (get nat_cmp s.marks) f

-- no frame between the two has a mark
abbrev pub IsBare : Stages → ℕ → ℕ → Type 0
IsBare s lo to = (q : ℕ) → lo < q → q < to → get nat_cmp s.marks q ≡ None
