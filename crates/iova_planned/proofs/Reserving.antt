-- Windows that are reserved one after another.
use Rattle.std.proofs.Common.{ℕ, ◌≡◌, ◌∙◌, ◌+◌, ◌-◌, List, [], ◌∷◌, Result, Ok, Err, length, arith, refl, subst}
use Rattle.std.specs.Prelude.{IfOk, ⊤}
use Rattle.iova_range.specs.declared.refusal.Refusal.{Refusal}
use Rattle.iova_range.specs.Frames.{Frames}
use Rattle.iova_model.specs.declared.step.Step.TheVariants as step
use Rattle.iova_model.specs.declared.step.Reply.TheVariants as reply
use Rattle.iova_model.specs.State.{State}
use Rattle.iova_keep.specs.Steps.{Takes}
use Rattle.iova_keep.specs.StepLogs.{StoresStep}
use Rattle.iova_record.proofs.GoingOn.{unchanged_goes_on, goes_on_further, step_goes_on}
use Rattle.iova_lock.specs.Books.{BookState}
use Rattle.iova_planned.specs.PlannedDomains.{IsReserved, ReservesAll}

-- one window, by its first and its last frame
reserved_one : (w got : Frames) (hi : ℕ) (s t : State) → hi + 1 ≡ w.lo + w.len → Takes s (step.Reserve w.lo hi) (reply.Reserved got) t
    → ReservesAll (w ∷ []) s t
reserved_one w got hi s t is takes =
    let last : hi ≡ w.lo + w.len - 1 = omega (arith, is) in
    (t, got, subst (λ (n : ℕ). Takes s (step.Reserve w.lo n) (reply.Reserved got) t) last takes, refl)

pub reserved_window : (w got : Frames) (hi : ℕ) (a b : BookState) → hi + 1 ≡ w.lo + w.len → Takes a.state (step.Reserve w.lo hi) (reply.Reserved got) b.state
    → b.number ≡ a.number → b.strict ≡ a.strict → StoresStep a.log (step.Reserve w.lo hi) (reply.Reserved got) b.log → IsReserved (w ∷ []) a b
reserved_window w got hi a b is takes number strict stored = record {
  domain = reserved_one w got hi a.state b.state is takes;
  number = number;
  strict = strict;
  log = step_goes_on a.log b.log (step.Reserve w.lo hi) (reply.Reserved got) stored;
}

-- none
pub reserved_none : (ws : List Frames) (a : BookState) → length ws ≡ 0 → IsReserved ws a a
reserved_none [] a none = record { domain = refl; number = refl; strict = refl; log = unchanged_goes_on a.log }
reserved_none (w ∷ ws) a none = absurd (omega (arith, none))

-- and others after it
reserved_more : (w : Frames) (ws : List Frames) (a b c : BookState) → IsReserved (w ∷ []) a b → IsReserved ws b c → IsReserved (w ∷ ws) a c
reserved_more w ws a b c first more = record {
  domain = (first.domain.0, first.domain.1, first.domain.2, subst (λ (s : State). ReservesAll ws s c.state) first.domain.3 more.domain);
  number = more.number ∙ first.number;
  strict = more.strict ∙ first.strict;
  log = goes_on_further first.log more.log;
}

-- windows are reserved, where others were tried before
pub reserved_rest : (r : Result ⊤ Refusal) (w : Frames) (ws : List Frames) (a b c : BookState) → IsReserved (w ∷ []) a b
    → IfOk r (λ u. IsReserved ws b c) → IfOk r (λ u. IsReserved (w ∷ ws) a c)
reserved_rest (Ok u) w ws a b c first more = reserved_more w ws a b c first more
reserved_rest (Err e) w ws a b c first more = tt
