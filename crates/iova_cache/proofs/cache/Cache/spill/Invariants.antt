use Rattle.std.proofs.Common.{◌≡◌}
use Rattle.iova_cache.proofs.Exchanged.{Spilling}
use Rattle.iova_cache.proofs.cache.Cache.spill.Given as goal

abbrev pub invariant-loop-count : goal.invariant-loop-count
invariant-loop-count l =
    Spilling l.initial.self-inside.magazines l.self-inside.magazines l.fn.self l.initial.domain l.domain l.order l.count
    × (l.self-inside ≡ record l.initial.self-inside { magazines = l.self-inside.magazines })
