use Rattle.std.proofs.Common.{◌≡◌, ◌≢◌, ◌==◌, ◌≤◌, ◌⊎◌, inl, inr, ℕ, Bool, true, false, Option, Some, None, Result, Ok, Err, arith, refl}
use Rattle.std.specs.Prelude.{MatchBool}
use Rattle.std.proofs.lemmas.Bool.Decides.{nat_tests}
use Rattle.iova_range.specs.declared.refusal.Refusal.{Refusal}
use Rattle.iova_range.specs.declared.refusal.Refusal.TheVariants as refusal
use Rattle.iova_model.specs.declared.step.Reply.TheVariants as reply
use Rattle.iova_keep.specs.declared.ending.Ending.{Ending}
use Rattle.iova_keep.specs.declared.ending.Ending.TheVariants as ending
use Rattle.iova_keep.specs.declared.ending.Why.{Why}
use Rattle.iova_keep.specs.declared.ending.Why.TheVariants as why
use Rattle.iova_keep.specs.Views.{IsUnknown, IsCloseRefusal}
use Rattle.iova_keep.specs.Events.{Answered, unknown, gone, share, sink_failed, overlap}
use Rattle.iova_keep.proofs.closing.refused.Goals as goal

of_full : (queued left : ℕ) (flushed : Option Bool) (w : Why) → ((flushed ≡ Some true) × (w ≡ why.Overlap)) ⊎ ((flushed ≡ Some false) × (w ≡ why.SinkFailed))
    → Answered queued left flushed (Some (reply.Refused refusal.RingFull)) None (Ok (ending.Waiting left w))
of_full queued left flushed w (inl h) = rw h.1 (overlap h.0)
of_full queued left flushed w (inr h) = rw h.1 (sink_failed h.0)

is_unknown : (r : Refusal) → IsCloseRefusal r → r ≢ refusal.NotHeld → r ≢ refusal.RingFull → IsUnknown r
is_unknown r (inl h) held full = h
is_unknown r (inr (inl h)) held full = absurd (held h)
is_unknown r (inr (inr h)) held full = absurd (full h)

of_unknown : (queued left : ℕ) (flushed : Option Bool) (r : Refusal) (result : Result Ending Refusal) (b : Bool) → (queued == 0) ≡ b → IsUnknown r
    → MatchBool b (result ≡ Err r) (result ≡ Ok (ending.Ended queued)) → Answered queued left flushed (Some (reply.Refused r)) None result
of_unknown queued left flushed r result true e known is = let none : queued ≡ 0 = grind (arith, nat_tests) in rw is (unknown r known none)
of_unknown queued left flushed r result false e known is = let some : 1 ≤ queued = grind (arith, nat_tests) in rw is (gone r known some)

pub returns-in-NotHeld : goal.returns-in-NotHeld
returns-in-NotHeld c = rw c.in-NotHeld.is share

pub returns-in-RingFull : goal.returns-in-RingFull
returns-in-RingFull c = rw c.in-RingFull.is (of_full _ _ _ _ c.still_full.ensures)

pub returns-in_default : goal.returns-in_default
returns-in_default c =
    of_unknown c.args.queued _ _ c.args.refusal _ (c.args.queued == 0) refl (is_unknown c.args.refusal c.requires.close c.in_default.not-NotHeld c.in_default.not-RingFull) c.unknown.ensures
