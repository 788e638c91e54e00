-- Rings that are drained, one after another.
use Rattle.std.proofs.Common.{ℕ, zero, suc, ◌≡◌, ◌≢◌, ◌+◌, ◌-◌, ◌≤◌, List, [], ◌∷◌, Option, refl, ap, arith}
use Rattle.iova_range.specs.declared.refusal.Refusal.TheVariants as refusal
use Rattle.iova_model.specs.declared.step.Step.TheVariants as step
use Rattle.iova_model.specs.declared.step.Reply.{Reply}
use Rattle.iova_model.specs.declared.step.Reply.TheVariants as reply
use Rattle.iova_model.specs.State.{State}
use Rattle.iova_keep.specs.Steps.{Takes, IsDrainReply}
use Rattle.iova_keep.specs.Events.{Ran, Draining, drains, none_left, rings_from}
use Rattle.iova_keep.specs.StepLogs.{StepLog, StoresStep}
use Rattle.iova_keep.specs.Stored.{DoesAndStores}

pub drains_none : (by : ℕ) (a : Option StepLog) (s : State) → DoesAndStores (Draining by [] 0) a a s s
drains_none by a s = record { events = []; allowed = none_left; leads = refl; stored = refl }

pub drains_more : (by q n more : ℕ) (rings : List ℕ) (a b c : Option StepLog) (s m t : State) → Takes s (step.Drain q by) (reply.Drained n) m → StoresStep a (step.Drain q by) (reply.Drained n) b
    → DoesAndStores (Draining by rings more) b c m t → DoesAndStores (Draining by (q ∷ rings) (n + more)) a c s t
drains_more by q n more rings a b c s m t h k d = record {
  events = Ran (step.Drain q by) (reply.Drained n) ∷ d.events;
  allowed = drains q rings n more d.events d.allowed;
  leads = (m, h, d.leads);
  stored = (b, k, d.stored);
}

-- the first ring, and the others
pub rings_step : (q left : ℕ) → left ≢ 0 → rings_from q left ≡ q ∷ rings_from (q + 1) (left - 1)
rings_step q zero some = absurd (some refl)
rings_step q (suc n) some = let e : suc n - 1 ≡ n = omega arith in rw e refl

-- with no such worker it is refused
pub refused_so : (workers by : ℕ) (r : Reply) → IsDrainReply workers (step.Drain 0 by) r → workers ≤ by → r ≡ reply.Refused refusal.NoWorker
refused_so workers by (reply.Drained n) is none = let below = is.2 in absurd (omega (arith, below, none))
refused_so workers by (reply.Refused e) is none = ap (λ x. reply.Refused x) is.0
refused_so workers by (reply.Reserved r) is none = absurd is
refused_so workers by (reply.Opened n) is none = absurd is
refused_so workers by (reply.Given r) is none = absurd is
refused_so workers by (reply.Queued r) is none = absurd is
refused_so workers by (reply.Begun n) is none = absurd is
refused_so workers by reply.Ended is none = absurd is
refused_so workers by (reply.Marked n) is none = absurd is
refused_so workers by reply.Empty is none = absurd is
