-- What a refusal leaves, and what no step changes.
use Rattle.std.proofs.Common.{◌≡◌, refl, sym, subst}
use Rattle.iova_range.specs.declared.refusal.Refusal.{Refusal}
use Rattle.iova_range.specs.declared.refusal.Refusal.TheVariants as refusal
use Rattle.iova_model.specs.declared.step.Step.{Step}
use Rattle.iova_model.specs.declared.step.Step.TheVariants as step
use Rattle.iova_model.specs.declared.step.Reply.{Reply}
use Rattle.iova_model.specs.declared.step.Reply.TheVariants as reply
use Rattle.iova_model.specs.State.{State}
use Rattle.iova_model.specs.Next.{with_caches}
use Rattle.iova_model.specs.Effects.{RefusalLeaves}
use Rattle.iova_model.specs.Laws.{RefusalsKeepTheState, StepsKeepTheDomain}
use Rattle.iova_laws.proofs.Outcomes.{Outcome, turned_down, gives_nothing, only_marks, outcome}

-- the refusals of two equal replies are equal
same_refusal : (r q : Refusal) → reply.Refused r ≡ reply.Refused q → q ≡ r
same_refusal r q e = cc

-- what each outcome leaves where its reply is a refusal
refused_leaves : (s : State) {st : Step} {r : Reply} {t : State} → Outcome s st r t → (q : Refusal) → r ≡ reply.Refused q → RefusalLeaves s st q t
refused_leaves s (turned_down st r why) q e = subst (λ x. RefusalLeaves s st x s) (sym (same_refusal r q e)) why.leaves
refused_leaves s (gives_nothing w id frames limit c r caches own leaves) q e = subst (λ x. RefusalLeaves s (step.Alloc w id frames limit) x (with_caches s caches)) (sym (same_refusal r q e)) leaves
refused_leaves s {t = t} (only_marks w id c own) q e = subst (λ x. RefusalLeaves s (step.CloseOne w id) x t) (sym (same_refusal refusal.RingFull q e)) refl
refused_leaves s o q e = absurd cc

-- so each refused step leaves what the law says
pub refusals_keep_the_state : RefusalsKeepTheState
refusals_keep_the_state = λ s st m r e. refused_leaves s (outcome s st m) r e

-- the bounds and the worker count stay
pub domain_kept : (s : State) {st : Step} {r : Reply} {t : State} → Outcome s st r t → (t.bounds ≡ s.bounds) × (t.workers ≡ s.workers)
domain_kept s (turned_down st r why) = (refl, refl)
domain_kept s o = (refl, refl)

-- and no step changes the domain
pub steps_keep_the_domain : StepsKeepTheDomain
steps_keep_the_domain = λ s st m. domain_kept s (outcome s st m)
