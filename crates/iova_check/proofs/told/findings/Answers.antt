use Rattle.std.proofs.Common.{ℕ, List, Option, subst}
use Rattle.std.proofs.Math.Path.{fun_ext}
use Rattle.iova_check.specs.declared.event.Event.{Event}
use Rattle.iova_check.specs.declared.stage.Stage.{Stage}
use Rattle.iova_check.specs.declared.stage.OpenFlush.{OpenFlush}
use Rattle.iova_check.specs.declared.finding.Finding.{Finding}
use Rattle.iova_check.specs.AllowedBounds.{AllowedBounds}
use Rattle.iova_check.specs.declared.tracker.Tracker.{Tracker}
use Rattle.iova_check.specs.History.{flight_of, stage_of}
use Rattle.iova_check.specs.Marks.{stage_at}
use Rattle.iova_check.specs.Following.{Follows}
use Rattle.iova_check.specs.Findings.{AreFindings}
use Rattle.std.specs.Ordering.{nat_cmp}
use Rattle.std.specs.BTreeMap.{get}
use Rattle.iova_check.proofs.Reuses.{breaks_told}
use Rattle.iova_check.proofs.told.findings.Goals as goal

-- what the tracker knows are the stages and the flushes in flight
followed : (past : List Event) (t : Tracker) (bounds : AllowedBounds) (e : Event) (fs : List (Option Finding)) → Follows past t
    → AreFindings bounds (stage_at t.stages) (get nat_cmp t.flights) e fs → AreFindings bounds (stage_of past) (flight_of past) e fs
followed past t bounds e fs follows h =
    let P : (ℕ → Stage) → Type 0 = λ at. AreFindings bounds at (get nat_cmp t.flights) e fs in
    let Q : (ℕ → Option OpenFlush) → Type 0 = λ flights. AreFindings bounds (stage_of past) flights e fs in
    subst Q (fun_ext follows.flights) (subst P (fun_ext follows.stages) h)

pub returns-clause-told : goal.returns-clause-told
returns-clause-told c = λ bounds past allows follows.
    followed past c.args.tracker.now bounds c.args.event.now c.tell.result follows (c.tell.ensures bounds allows)

pub returns-clause-breaks : goal.returns-clause-breaks
returns-clause-breaks c = λ bounds past allows follows.
    breaks_told past bounds (flight_of past) c.args.event.now c.tell.result
    (followed past c.args.tracker.now bounds c.args.event.now c.tell.result follows (c.tell.ensures bounds allows))
