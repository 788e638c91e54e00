use Rattle.std.proofs.Common.{◌≡◌}
use Rattle.iova_cache.specs.Exchanges.{request}
use Rattle.iova_cache.proofs.Exchanged.{Refilling}
use Rattle.iova_cache.proofs.cache.Cache.refill.Given as goal

abbrev pub invariant-loop-count : goal.invariant-loop-count
invariant-loop-count l =
    Refilling l.initial.self-inside.magazines l.self-inside.magazines (request l.fn.self l.frames l.limit) l.initial.domain l.domain l.order l.count
    × (l.self-inside ≡ record l.initial.self-inside { magazines = l.self-inside.magazines })
