use Rattle.std.proofs.Common.{◌≡◌, ◌+◌, ◌≤◌, map, vec_len, vec_capacity}
use Rattle.std.specs.Vec.Iter.{into_iter_len}
use Rattle.iova_daemon.specs.SessionThreads.{AllServed}
use Rattle.iova_daemon.proofs.join_all.Given as goal

abbrev pub invariant-loop-handle : goal.invariant-loop-handle
invariant-loop-handle g l =
    AllServed g.L.Link.left g.L.Link.sent g.L.Link.calls g.L.Link.reads
    (map (λ h. record {
      limits = h.promise.limits;
      identity = g.K.Keep.identity h.promise.keeper.value;
      domain = g.K.Keep.domain h.promise.keeper.value;
      seat = h.promise.post.value.seat;
      waiting = h.promise.post.value.waiting.items;
      calls = g.D.Sink.calls h.promise.sink.value;
    }) l.yielded)
    (map (λ p. p.seat) l.back.items) (map (λ p. p.waiting.items) l.back.items) (map g.D.Sink.calls l.given.items)
    × (vec_len l.back + into_iter_len l.handle-iterator ≡ vec_len l.fn.started)
    × (vec_len l.given + into_iter_len l.handle-iterator ≡ vec_len l.fn.started)
    × (vec_len l.fn.started ≤ vec_capacity l.back) × (vec_len l.fn.started ≤ vec_capacity l.given)
