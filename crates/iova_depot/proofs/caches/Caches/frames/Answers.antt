use Rattle.std.proofs.Common.{◌≡◌, ◌<◌, ◌≤◌, length, vec_len, arith}
use Rattle.std.specs.Prelude.{map}
use Rattle.std.proofs.lemmas.List.{length-map}
use Rattle.iova_depot.proofs.Changes.{caches_in, caches_at}
use Rattle.iova_depot.proofs.Counts.{frames_of-workers, depots_bound}
use Rattle.iova_depot.proofs.caches.Caches.frames.Goals as goal

pub loop-w-preserved : goal.loop-w-preserved
loop-w-preserved c =
    let len : vec_len c.self.inside.workers ≡ length c.self.inside.workers.items = omega (arith, c.self.inside.workers.ok.0) in
    let lt : c.loop-w.w < length c.self.inside.workers.items = omega arith in
    let n = length-map c.self.inside.workers.items caches_in in
    let seen : c.loop-w.w < length (map caches_in c.self.inside.workers.items) = omega arith in
    let all = frames_of-workers _ _ _ seen (caches_at _ _ _ lt c.index.ensures) in
    let here = c.frames-in_magazines.ensures.is c.loop-w.w in
    record {
      counted = omega (arith, c.loop-w.invariant.counted);
      few = omega (arith, c.loop-w.invariant.few, c.frames-in_magazines.ensures.few);
    }

pub returns-clause-few : goal.returns-clause-few
returns-clause-few c =
    let s = c.self.invariant in
    let len : vec_len c.self.inside.workers ≡ length c.self.inside.workers.items = omega (arith, c.self.inside.workers.ok.0) in
    let workers : length c.self.inside.workers.items ≤ 16 = s.few_workers in
    let depots = depots_bound _ _ _ s.is_profile s.caches in
    omega (arith, s.depot)
