use Rattle.std.proofs.Common.{◌≡◌, ◌∙◌, List, ap, length, map, subst, sym, arith}
use Rattle.std.proofs.lemmas.List.{length-append, length-map}
use Rattle.std.specs.Vec.Iter.{into_iter_items}
use Rattle.iova_daemon.specs.SessionThreads.{AllServed, ThreadStart}
use Rattle.iova_daemon.proofs.Places.{whole_front, started_are}
use Rattle.iova_daemon.proofs.fn.run_all.scope.Goals as goal

-- each thread was started with its post and its sink, and all were joined
pub returns : goal.returns
returns g c =
    let i = c.loop-place.invariant in
    let none = rw c.in-None.is at c.next.ensures.steps in
    let long = c.loop-place.place-iterator.rest.ok.0 in
    let parts = length-append c.loop-place.yielded (into_iter_items c.loop-place.place-iterator) in
    let whole = ap length i.12 in
    let yielded : c.loop-place.yielded ≡ c.captures.posts.items =
    whole_front c.loop-place.yielded (into_iter_items c.loop-place.place-iterator) _ i.12 (omega (arith, parts, whole, long, none.0)) ∙ c.into_iter-place-iterator.ensures.into_iter_gives.0 in
    let many : length c.loop-place.started.items ≡ length c.captures.sinks.items =
    omega (arith, c.loop-place.started.ok.0, i.5, none.0, c.len-count.ensures, c.requires, c.captures.sinks.ok.0) in
    let told : map (λ h. g.D.Sink.calls h.promise.sink.value) c.loop-place.started.items ≡ map g.D.Sink.calls c.captures.sinks.items =
    whole_front _ _ _ (i.4 ∙ ap (map g.D.Sink.calls) c.into_iter-sinks.ensures.rest)
    (length-map c.loop-place.started.items (λ h. g.D.Sink.calls h.promise.sink.value) ∙ many ∙ sym (length-map c.captures.sinks.items g.D.Sink.calls)) in
    let started = started_are (λ h. h.promise.limits) (λ h. h.promise.keeper.value) g.K.Keep.identity g.K.Keep.domain (λ h. h.promise.post.value.seat)
    (λ h. h.promise.post.value.waiting.items) (λ h. g.D.Sink.calls h.promise.sink.value) c.captures.context.now.serving.limits c.captures.context.now.keeper
    (λ p. p.seat) (λ p. p.waiting.items) c.loop-place.started.items c.loop-place.yielded (map g.D.Sink.calls c.captures.sinks.items) i.0 i.1 i.2 i.3 told in
    let served = subst (λ (ts : List ThreadStart). AllServed g.L.Link.left g.L.Link.sent g.L.Link.calls g.L.Link.reads ts
    (map (λ p. p.seat) c.join_all-2.new.back.items) (map (λ p. p.waiting.items) c.join_all-2.new.back.items) (map g.D.Sink.calls c.join_all-2.new.given.items)) started c.join_all-2.ensures in
    record { kept = (rw yielded at served, rw c.into_sink.ensures c.go_on.ensures); refusal = tt }
