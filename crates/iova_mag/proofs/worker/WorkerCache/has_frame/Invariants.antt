use Rattle.std.proofs.Common.{◌≡◌, ℕ}
use Rattle.std.specs.Prelude.{drop, map}
use Rattle.std.specs.List.{list_any}
use Rattle.iova_range.specs.Frames.{covers}
use Rattle.iova_model.specs.State.{cache_holders}
use Rattle.iova_mag.proofs.Pairs.{cache_in}
use Rattle.iova_mag.proofs.worker.WorkerCache.has_frame.Given as goal

-- what is sought is at this order or above, if it is there
abbrev pub invariant-loop-order : goal.invariant-loop-order
invariant-loop-order l =
    (worker : ℕ) → list_any (λ h. covers l.frame h.range) (cache_holders worker l.order (drop l.order (map cache_in l.self-inside.pairs.items)))
    ≡ list_any (λ h. covers l.frame h.range) (cache_holders worker 0 (map cache_in l.self-inside.pairs.items))
