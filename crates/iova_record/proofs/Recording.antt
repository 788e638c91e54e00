-- What is recorded is a transcript.
use Rattle.std.proofs.Common.{ℕ, ◌≡◌, ◌≤◌, List, [], ◌∷◌, ◌++◌, length, Option, Some, None, Result, Ok, Err, arith}
use Rattle.std.proofs.lemmas.List.{length-map}
use Rattle.iova_range.specs.Bounds.{Extent, IsExtent}
use Rattle.iova_range.specs.declared.limits.TheConstants.{MAX_WORKERS, MAX_STEPS}
use Rattle.iova_range.specs.declared.refusal.Refusal.{Refusal}
use Rattle.iova_model.specs.State.{State}
use Rattle.iova_model.specs.Transcript.{Pair}
use Rattle.iova_line.specs.LineSteps.{IsStep}
use Rattle.iova_line.specs.Traces.{IsTrace}
use Rattle.iova_line.specs.Recorded.{trace_of, AreSteps}
use Rattle.iova_line.specs.Text.{IsHeader}
use Rattle.iova_record.specs.Records.{WritesLog, WritesText}
use Rattle.iova_keep.specs.StepLogs.{StepLog, IsRecorded}

-- one pair more
pub steps_push : (pairs : List Pair) (p : Pair) → AreSteps pairs → IsStep p.step → AreSteps (pairs ++ p ∷ [])
steps_push [] p all is = (is, tt)
steps_push (q ∷ pairs) p all is = (all.0, steps_push pairs p all.1 is)

is_trace : (bounds : Extent) (workers : ℕ) (pairs : List Pair) (n : ℕ) → IsHeader bounds workers → AreSteps pairs → n ≡ length pairs → n ≤ MAX_STEPS
    → IsTrace (trace_of bounds workers pairs)
is_trace bounds workers pairs n header steps count few =
    record { header = header; steps = steps; few = omega (arith, length-map pairs (λ (p : Pair). p.step), count, few) }

pub told_recorded : (s : State) (log : Option StepLog) (old new : List ℕ) (r : Result ℕ Refusal) → IsExtent s.bounds → 1 ≤ s.workers → s.workers ≤ MAX_WORKERS
    → IsRecorded log s → WritesText s log old new r → WritesLog s log old new r
told_recorded s None old new (Ok n) extent some most is text =
    let header : IsHeader s.bounds s.workers = record { extent = extent; some = some; most = most } in
    record { header = header; transcript = tt; text = text; trace = λ few. is_trace s.bounds s.workers [] n header text.2 text.1 few }
told_recorded s (Some log) old new (Ok n) extent some most is text =
    let header : IsHeader s.bounds s.workers = record { extent = extent; some = some; most = most } in
    record { header = header; transcript = is.transcript; text = text; trace = λ few. is_trace s.bounds s.workers log.pairs n header text.2 text.1 few }
told_recorded s log old new (Err e) extent some most is text = tt
