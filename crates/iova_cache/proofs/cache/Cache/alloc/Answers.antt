use Rattle.std.proofs.Common.{◌≡◌, ℕ, ap, sym, ◌∙◌, subst}
use Rattle.std.specs.Prelude.{min}
use Rattle.iova_cache.specs.Magazines.{Misses}
use Rattle.iova_cache.specs.Caches.{CacheState, reach}
use Rattle.iova_cache.proofs.Stacks.{never_refused}
use Rattle.iova_cache.proofs.cache.Cache.alloc.Goals as goal

pub returns-in_default-clause-no_memory : goal.returns-in_default-clause-no_memory
returns-in_default-clause-no_memory c = λ is. c.in_default.ensures.full

pub returns-clause-unchanged : goal.returns-clause-unchanged
returns-clause-unchanged c =
    let same = c.in-Ok.ensures.room.magazines ∙ ap (λ (s : CacheState). s.magazines) (sym c.self.view_is) in
    let most = c.in-Ok.ensures.room.client.most ∙ ap (λ (s : CacheState). s.most) (sym c.self.view_is) in
    let last : reach c.make_room.new.self c.args.limit ≡ c.min.result = ap (λ n. min c.args.limit n) most ∙ sym c.min.ensures in
    never_refused _ c.get.result c.self.inside.magazines c.make_room.new.self.magazines c.order_of_need-order.result c.min.result c.in_ok-look.ensures.fits same c.get.ensures.kind
    (λ is. subst (λ (n : ℕ). Misses c.make_room.new.self.magazines c.order_of_need-order.result n) last (c.get.ensures.miss is)) c.get.ensures.empty
