use Rattle.std.proofs.Common.{◌≡◌, [], sym}
use Rattle.iova_model.specs.Flushes.{flushed_front}
use Rattle.iova_core.proofs.Drains.{exchanges_none}
use Rattle.iova_core.proofs.reclaim.drain_unless.Goals as goal

pub returns-then-waits-clause-count : goal.returns-then-waits-clause-count
returns-then-waits-clause-count c = let none : flushed_front c.args.finish c.args.ring.now ≡ [] = c.requires.none c.if-waits.true in rw none cc

pub returns-then-waits-clause-ring : goal.returns-then-waits-clause-ring
returns-then-waits-clause-ring c = sym (c.requires.all c.if-waits.true)

pub returns-then-waits-clause-caches : goal.returns-then-waits-clause-caches
returns-then-waits-clause-caches c = let none : flushed_front c.args.finish c.args.ring.now ≡ [] = c.requires.none c.if-waits.true in rw none cc

pub returns-then-waits-clause-backed : goal.returns-then-waits-clause-backed
returns-then-waits-clause-backed c =
    let none : flushed_front c.args.finish c.args.ring.now ≡ [] = c.requires.none c.if-waits.true in
    rw none (exchanges_none c.args.tree.now c.args.caches.now c.requires.backed.space c.requires.backed.cached)
