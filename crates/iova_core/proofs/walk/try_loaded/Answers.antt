use Rattle.std.proofs.Common.{Some, ap, sym, ◌∙◌, arith}
use Rattle.iova_range.specs.Frames.{Frames}
use Rattle.iova_model.specs.Caches.{Caches}
use Rattle.iova_depot.specs.Cached.{Cached}
use Rattle.iova_core.proofs.Reclaims.{has_low}
use Rattle.iova_core.proofs.Tries.{gets, gets_has, exchanges_got}
use Rattle.iova_core.proofs.walk.try_loaded.Goals as goal

pub new-requires-clause-fits : goal.new-requires-clause-fits
new-requires-clause-fits c =
    let r : Frames = record { lo = c.in-Some.lo; len = c.args.size } in
    let from = gets c.args.caches.now c.from_loaded.new.caches c.args.w c.args.size c.args.limit (Some c.in-Some.lo) c.requires.backed.cached c.requires.worker (sym c.in-Some.ensures.value) c.in-Some.ensures.left in
    let low = has_low c.args.tree.now r c.requires.backed.space (gets_has c.args.tree.now c.args.caches.now c.from_loaded.new.caches c.args.size c.in-Some.lo c.requires.backed from) in
    omega (arith, low)

pub returns-in-Some-clause-backed : goal.returns-in-Some-clause-backed
returns-in-Some-clause-backed c =
    let old = c.args.caches.now in
    let made : Caches → Cached = λ x. record old { caches = x } in
    let from = gets old c.from_loaded.new.caches c.args.w c.args.size c.args.limit (Some c.in-Some.lo) c.requires.backed.cached c.requires.worker (sym c.in-Some.ensures.value) c.in-Some.ensures.left in
    rw c.new.ensures (exchanges_got c.args.tree.now old c.from_loaded.new.caches c.args.size (Some c.in-Some.lo) c.requires.backed.space (c.from_loaded.ensures.cached c.requires.backed.cached) from (c.in-Some.ensures.left ∙ ap made (sym (ap (λ (x : Cached). x.caches) c.in-Some.ensures.left))))
