use Rattle.std.proofs.Common.{◌≡◌, ℕ, ap, ◌∙◌, subst, arith}
use Rattle.iova_model.specs.declared.step.Step.TheVariants as step
use Rattle.iova_model.specs.declared.step.Reply.TheVariants as reply
use Rattle.iova_core.specs.Domain.{IsStepOf}
use Rattle.iova_cache.specs.declared.cache.Cache.TheInside.{Inside}
use Rattle.iova_cache.specs.Caches.{CacheState}
use Rattle.iova_cache.specs.Exchanges.{request}
use Rattle.iova_cache.proofs.Exchanged.{refilling_more}
use Rattle.iova_cache.proofs.cache.Cache.refill.Goals as goal

pub loop-count-preserved : goal.loop-count-preserved
loop-count-preserved c =
    let inv = c.loop-count.invariant in
    let worker : c.loop-count.self-inside.worker ≡ c.args.self.now.worker = ap (λ (i : Inside). i.worker) inv.1 ∙ ap (λ (s : CacheState). s.worker) c.self.view_is in
    let client : c.loop-count.self-inside.client ≡ c.args.self.now.client = ap (λ (i : Inside). i.client) inv.1 ∙ ap (λ (s : CacheState). s.client) c.self.view_is in
    let given = c.in-Ok.ensures.given in
    let asked = subst (λ (w : ℕ). IsStepOf c.loop-count.domain (step.Alloc w c.args.self.now.client c.args.frames c.args.limit) (reply.Given c.in-Ok.range) c.ask.new.domain) worker
    (subst (λ (n : ℕ). IsStepOf c.loop-count.domain (step.Alloc c.loop-count.self-inside.worker n c.args.frames c.args.limit) (reply.Given c.in-Ok.range) c.ask.new.domain) client given) in (
      refilling_more c.self.inside.magazines c.loop-count.self-inside.magazines c.put-put.new.self (request c.args.self.now c.args.frames c.args.limit) c.args.domain.now c.loop-count.domain c.ask.new.domain
          c.order_of_need-order.result c.loop-count.count c.min-all.result c.in-Ok.range c.put-put.result c.len.ensures.sound c.order_of_need-order.ensures.low inv.0 c.loop-count-test.true
          (omega (arith, c.min-all.ensures, c.len.ensures.is, c.len.ensures.bounded)) asked c.put-put.ensures.put c.put-put.ensures.full,
      ap (λ (i : Inside). record i { magazines = c.put-put.new.self }) inv.1,
    )
