use Rattle.std.proofs.Common.{◌≡◌, ◌<◌, length, vec_len, sym, ap, ◌∙◌, arith}
use Rattle.std.specs.Prelude.{option_map, map}
use Rattle.iova_depot.proofs.Changes.{caches_in, lists_in, caches_at, lists_at, length-depots}
use Rattle.iova_depot.proofs.Found.{place_in, find_in_worker, find_behind_worker, find_in_depot, find_behind_depot}
use Rattle.std.proofs.lemmas.List.{length-map}
use Rattle.iova_depot.proofs.caches.Caches.find.Goals as goal

pub returns-then-has_frame : goal.returns-then-has_frame
returns-then-has_frame c =
    let len : vec_len c.self.inside.workers ≡ length c.self.inside.workers.items = omega (arith, c.self.inside.workers.ok.0) in
    let lt : c.loop-w.w < length c.self.inside.workers.items = omega arith in
    let n = length-map c.self.inside.workers.items caches_in in
    let seen : c.loop-w.w < length (map caches_in c.self.inside.workers.items) = omega arith in
    let some = sym (c.has_frame.ensures c.loop-w.w) ∙ c.if-has_frame.true in
    let here = find_in_worker c.args.frame _ _ _ _ seen (caches_at _ _ _ lt c.index.ensures) some in
    rw (← c.self.view_is) (sym here ∙ c.loop-w.invariant)

pub loop-w-preserved : goal.loop-w-preserved
loop-w-preserved c =
    let len : vec_len c.self.inside.workers ≡ length c.self.inside.workers.items = omega (arith, c.self.inside.workers.ok.0) in
    let lt : c.loop-w.w < length c.self.inside.workers.items = omega arith in
    let n = length-map c.self.inside.workers.items caches_in in
    let seen : c.loop-w.w < length (map caches_in c.self.inside.workers.items) = omega arith in
    let none = sym (c.has_frame.ensures c.loop-w.w) ∙ c.if-has_frame.false in
    let behind = find_behind_worker c.args.frame _ _ _ _ seen (caches_at _ _ _ lt c.index.ensures) none in
    sym (ap (option_map place_in) behind) ∙ c.loop-w.invariant

pub returns-then-has_frame-2 : goal.returns-then-has_frame-2
returns-then-has_frame-2 c =
    let six = length-depots _ _ _ _ _ c.self.invariant in
    let lt : c.loop-order.order < length c.self.inside.depots.items = omega arith in
    let n = length-map c.self.inside.depots.items lists_in in
    let seen : c.loop-order.order < length (map lists_in c.self.inside.depots.items) = omega arith in
    let some = sym c.has_frame-in-loop-order.ensures ∙ c.if-has_frame-2.true in
    let here = find_in_depot c.args.frame _ _ _ seen (lists_at _ _ _ lt c.index-in-loop-order.ensures) some in
    rw (← c.self.view_is) (sym here ∙ c.loop-order.invariant)

pub loop-order-preserved : goal.loop-order-preserved
loop-order-preserved c =
    let six = length-depots _ _ _ _ _ c.self.invariant in
    let lt : c.loop-order.order < length c.self.inside.depots.items = omega arith in
    let n = length-map c.self.inside.depots.items lists_in in
    let seen : c.loop-order.order < length (map lists_in c.self.inside.depots.items) = omega arith in
    let none = sym c.has_frame-in-loop-order.ensures ∙ c.if-has_frame-2.false in
    let behind = find_behind_depot c.args.frame _ _ _ seen (lists_at _ _ _ lt c.index-in-loop-order.ensures) none in
    sym (ap (option_map place_in) behind) ∙ c.loop-order.invariant
