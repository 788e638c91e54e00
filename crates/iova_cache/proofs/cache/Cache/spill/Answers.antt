use Rattle.std.proofs.Common.{◌≡◌, ℕ, refl, ap, ◌∙◌, subst}
use Rattle.iova_model.specs.declared.step.Step.TheVariants as step
use Rattle.iova_model.specs.declared.step.Reply.TheVariants as reply
use Rattle.iova_core.specs.Domain.{IsStepOf}
use Rattle.iova_cache.specs.declared.cache.Cache.TheInside.{Inside}
use Rattle.iova_cache.specs.Caches.{CacheState}
use Rattle.iova_cache.proofs.Exchanged.{spilling_none, spilling_step}
use Rattle.iova_cache.proofs.cache.Cache.spill.Goals as goal

pub loop-count-init : goal.loop-count-init
loop-count-init c = (spilling_none c.self.inside.magazines c.args.self.now c.args.domain.now c.args.order, refl)

pub loop-count-preserved : goal.loop-count-preserved
loop-count-preserved c =
    let inv = c.loop-count.invariant in
    let worker : c.loop-count.self-inside.worker ≡ c.args.self.now.worker = ap (λ (i : Inside). i.worker) inv.1 ∙ ap (λ (s : CacheState). s.worker) c.self.view_is in
    let client : c.loop-count.self-inside.client ≡ c.args.self.now.client = ap (λ (i : Inside). i.client) inv.1 ∙ ap (λ (s : CacheState). s.client) c.self.view_is in
    let back = c.in-Ok.ensures.queued in
    let asked = subst (λ (w : ℕ). IsStepOf c.loop-count.domain (step.Unmap w c.args.self.now.client c.lo.result) (reply.Queued c.in-Ok.field-0) c.give_back.new.domain) worker
    (subst (λ (n : ℕ). IsStepOf c.loop-count.domain (step.Unmap c.loop-count.self-inside.worker n c.lo.result) (reply.Queued c.in-Ok.field-0) c.give_back.new.domain) client back) in (
      spilling_step c.self.inside.magazines c.loop-count.self-inside.magazines c.take-taken.new.self c.args.self.now c.args.domain.now c.loop-count.domain c.give_back.new.domain
          c.args.order c.loop-count.count c.lo.result c.in-Some.range c.in-Ok.field-0 c.take-taken.result c.len.ensures.sound c.requires inv.0 c.in-Some.ensures.some c.lo.ensures c.take-taken.ensures.taken c.take-taken.ensures.empty asked,
      ap (λ (i : Inside). record i { magazines = c.take-taken.new.self }) inv.1,
    )
