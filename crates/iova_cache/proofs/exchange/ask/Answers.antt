use Rattle.std.proofs.Common.{◌≡◌, ◌⊎◌, ℕ, inl, inr, sym, subst}
use Rattle.iova_range.specs.Frames.{Frames}
use Rattle.iova_model.specs.declared.step.Step.{Step}
use Rattle.iova_model.specs.declared.step.Step.TheVariants.{Alloc}
use Rattle.iova_model.specs.declared.step.Reply.{Reply}
use Rattle.iova_model.specs.declared.step.Reply.TheVariants.{Reserved, Opened, Queued, Begun, Ended, Drained, Marked, Empty}
use Rattle.iova_model.specs.Effects.{IsReplyTo}
use Rattle.iova_cache.proofs.exchange.ask.Goals as goal

-- a reply that no request has
abbrev Other : Reply → Type 0
Other r = ((x : Frames) × (r ≡ Reserved x)) ⊎ (((x : ℕ) × (r ≡ Opened x)) ⊎ (((x : Frames) × (r ≡ Queued x)) ⊎ (((x : ℕ) × (r ≡ Begun x)) ⊎ ((r ≡ Ended) ⊎ (((x : ℕ) × (r ≡ Drained x)) ⊎ (((x : ℕ) × (r ≡ Marked x)) ⊎ (r ≡ Empty)))))))

never : (w id frames limit : ℕ) (r : Reply) → IsReplyTo (Alloc w id frames limit) r → Other r → ⊥
never w id frames limit r kind (inl h) = subst (λ (r : Reply). IsReplyTo (Alloc w id frames limit) r) h.1 kind
never w id frames limit r kind (inr (inl h)) = subst (λ (r : Reply). IsReplyTo (Alloc w id frames limit) r) h.1 kind
never w id frames limit r kind (inr (inr (inl h))) = subst (λ (r : Reply). IsReplyTo (Alloc w id frames limit) r) h.1 kind
never w id frames limit r kind (inr (inr (inr (inl h)))) = subst (λ (r : Reply). IsReplyTo (Alloc w id frames limit) r) h.1 kind
never w id frames limit r kind (inr (inr (inr (inr (inl h))))) = subst (λ (r : Reply). IsReplyTo (Alloc w id frames limit) r) h kind
never w id frames limit r kind (inr (inr (inr (inr (inr (inl h)))))) = subst (λ (r : Reply). IsReplyTo (Alloc w id frames limit) r) h.1 kind
never w id frames limit r kind (inr (inr (inr (inr (inr (inr (inl h))))))) = subst (λ (r : Reply). IsReplyTo (Alloc w id frames limit) r) h.1 kind
never w id frames limit r kind (inr (inr (inr (inr (inr (inr (inr h))))))) = subst (λ (r : Reply). IsReplyTo (Alloc w id frames limit) r) h kind

pub returns-in-Reserved : goal.returns-in-Reserved
returns-in-Reserved c =
    let asked : Step = Alloc c.args.worker c.args.client c.args.frames c.args.limit in
    let kind = c.steps_are_answered_in_kind.ensures c.args.domain.now asked c.step.ensures.0 in
    absurd (never c.args.worker c.args.client c.args.frames c.args.limit c.step.result (subst (λ (r : Reply). IsReplyTo asked r) (sym c.step.ensures.1) kind) c.in-Reserved.is)
