use Rattle.std.proofs.Common.{◌≡◌, ◌≤◌, ◌+◌, ◌*◌, ◌^◌}
use Rattle.std.specs.Prelude.{drop, map}
use Rattle.iova_model.specs.State.{magazine_holders}
use Rattle.iova_model.specs.Effects.{frames_of}
use Rattle.iova_depot.proofs.Changes.{caches_in}
use Rattle.iova_depot.proofs.caches.Caches.frames.Given as goal

-- those of this worker and after are still to be counted, and the others are few
abbrev pub invariant-loop-w : goal.invariant-loop-w
invariant-loop-w l = record {
  counted : l.in_magazines + frames_of (magazine_holders l.w (drop l.w (map caches_in l.self-inside.workers.items)))
      ≡ frames_of (magazine_holders 0 (map caches_in l.self-inside.workers.items));
  few : l.in_magazines ≤ l.w * 2 ^ 16;
}
