use Rattle.std.proofs.Common.{◌≡◌, ◌≤◌, ◌+◌, ◌*◌, ◌^◌, ℕ}
use Rattle.std.specs.Prelude.{drop, map}
use Rattle.iova_model.specs.State.{cache_holders}
use Rattle.iova_model.specs.Effects.{frames_of}
use Rattle.iova_mag.proofs.Pairs.{cache_in}
use Rattle.iova_mag.proofs.worker.WorkerCache.frames.Given as goal

-- those of this order and above are still to be counted, and the others are few
abbrev pub invariant-loop-order : goal.invariant-loop-order
invariant-loop-order l = record {
  counted : (worker : ℕ) → l.frames + frames_of (cache_holders worker l.order (drop l.order (map cache_in l.self-inside.pairs.items)))
      ≡ frames_of (cache_holders worker 0 (map cache_in l.self-inside.pairs.items));
  few : l.frames ≤ l.order * 2 ^ 13;
}
