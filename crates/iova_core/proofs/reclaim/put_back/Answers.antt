use Rattle.std.proofs.Common.{◌≡◌, [], Some, ap, sym, ◌∙◌, arith}
use Rattle.iova_range.specs.Sizes.{order_of}
use Rattle.iova_model.specs.Caches.{of_order, put_range, freed_by_put}
use Rattle.iova_core.proofs.Reclaims.{has_inside, has_low, exchanges_put, frees_none, backed_has}
use Rattle.iova_core.proofs.reclaim.put_back.Goals as goal

pub try_put-requires-clause-small : goal.try_put-requires-clause-small
try_put-requires-clause-small c =
    let has = backed_has _ _ _ c.requires.backed in
    let low = has_low c.args.tree.now c.args.range c.requires.backed.space has in
    let inside = has_inside c.args.tree.now c.args.range c.requires.backed.space has in
    rw c.lo.ensures (omega (arith, low, inside.some))

pub returns-else-not-try_put-clause-backed : goal.returns-else-not-try_put-clause-backed
returns-else-not-try_put-clause-backed c =
    let old = c.args.caches.now in
    let r = c.args.range in
    let o = c.in-Some.order in
    let order : order_of r.len ≡ Some o = ap order_of (sym c.len.ensures.is) ∙ (sym c.order_of.ensures.computed ∙ c.in-Some.is) in
    let done = c.if-not-try_put.ensures in
    let sent : [] ≡ freed_by_put old.profile old.caches c.args.w r (order_of r.len) =
    ap (of_order o) (sym done.none) ∙ sym (ap (freed_by_put old.profile old.caches c.args.w r) order) in
    let now : c.try_put.new.self ≡ record old { caches = put_range old.profile old.caches c.args.w r (order_of r.len) } = rw order (rw c.lo.ensures at done.done) in
    exchanges_put c.args.tree.now c.args.tree.now old c.try_put.new.self c.args.w r [] c.requires.backed c.requires.worker sent now c.try_put.ensures.sound (frees_none c.args.tree.now c.requires.backed.space)
