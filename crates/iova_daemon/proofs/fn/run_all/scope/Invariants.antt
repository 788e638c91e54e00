use Rattle.std.proofs.Common.{◌≡◌, ◌+◌, ◌≤◌, ◌++◌, [], map, vec_len, vec_capacity}
use Rattle.std.specs.Vec.Iter.{into_iter_items, into_iter_len}
use Rattle.iova_daemon.proofs.fn.run_all.scope.Given as goal

abbrev pub invariant-loop-place : goal.invariant-loop-place
invariant-loop-place g l =
    (map (λ h. h.promise.limits) l.started.items ≡ map (λ p. l.context.serving.limits) l.yielded)
    × (map (λ h. h.promise.keeper.value) l.started.items ≡ map (λ p. l.context.keeper) l.yielded)
    × (map (λ h. h.promise.post.value.seat) l.started.items ≡ map (λ p. p.seat) l.yielded)
    × (map (λ h. h.promise.post.value.waiting.items) l.started.items ≡ map (λ p. p.waiting.items) l.yielded)
    × (map (λ h. g.D.Sink.calls h.promise.sink.value) l.started.items
    ++ map g.D.Sink.calls (into_iter_items l.sinks) ≡ map g.D.Sink.calls (into_iter_items l.initial.sinks))
    × (vec_len l.started + into_iter_len l.place-iterator ≡ l.count)
    × (l.count ≤ vec_capacity l.started)
    × (into_iter_len l.place-iterator ≡ into_iter_len l.sinks)
    × (l.back.items ≡ []) × (l.given.items ≡ []) × (l.count ≤ vec_capacity l.back) × (l.count ≤ vec_capacity l.given)
    × (l.yielded ++ into_iter_items l.place-iterator ≡ into_iter_items l.initial.place-iterator)
