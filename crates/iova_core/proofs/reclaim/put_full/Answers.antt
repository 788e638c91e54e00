use Rattle.std.proofs.Common.{◌≡◌, [], ap, sym, ◌∙◌, arith}
use Rattle.iova_range.specs.Sizes.{order_of}
use Rattle.iova_model.specs.Caches.{of_order, put_range, freed_by_put}
use Rattle.iova_mag.specs.Magazines.{Magazine}
use Rattle.iova_core.proofs.Reclaims.{has_inside, has_low, has_sent, exchanges_put, frees_none, backed_has}
use Rattle.iova_core.proofs.reclaim.put_full.Goals as goal

pub put-requires-clause-small : goal.put-requires-clause-small
put-requires-clause-small c =
    let has = backed_has _ _ _ c.requires.backed in
    let low = has_low c.args.tree.now c.args.range c.requires.backed.space has in
    let inside = has_inside c.args.tree.now c.args.range c.requires.backed.space has in
    rw c.lo.ensures (omega (arith, low, inside.some))

pub free_magazine-requires-clause-held : goal.free_magazine-requires-clause-held
free_magazine-requires-clause-held c =
    let old = c.args.caches.now in
    let r = c.args.range in
    let o = c.args.order in
    let sent : of_order o c.in-Some.magazine.entries ≡ freed_by_put old.profile old.caches c.args.w r (order_of r.len) =
    ap (λ (m : Magazine). of_order o m.entries) c.in-Some.ensures.sent ∙ sym (ap (freed_by_put old.profile old.caches c.args.w r) c.requires.length) in
    has_sent c.args.tree.now old c.args.w r _ c.requires.backed c.requires.worker sent

pub returns-in-Some-clause-backed : goal.returns-in-Some-clause-backed
returns-in-Some-clause-backed c =
    let old = c.args.caches.now in
    let r = c.args.range in
    let o = c.args.order in
    let sent : of_order o c.in-Some.magazine.entries ≡ freed_by_put old.profile old.caches c.args.w r (order_of r.len) =
    ap (λ (m : Magazine). of_order o m.entries) c.in-Some.ensures.sent ∙ sym (ap (freed_by_put old.profile old.caches c.args.w r) c.requires.length) in
    let now : c.put.new.self ≡ record old { caches = put_range old.profile old.caches c.args.w r (order_of r.len) } = rw c.requires.length (rw c.lo.ensures at c.put.ensures.left) in
    exchanges_put c.args.tree.now c.free_magazine.new.tree old c.put.new.self c.args.w r _ c.requires.backed c.requires.worker sent now c.put.ensures.sound c.free_magazine.ensures

pub returns-in_default-clause-backed : goal.returns-in_default-clause-backed
returns-in_default-clause-backed c =
    let old = c.args.caches.now in
    let r = c.args.range in
    let o = c.args.order in
    let sent : [] ≡ freed_by_put old.profile old.caches c.args.w r (order_of r.len) =
    ap (of_order o) (sym c.in_default.ensures.none) ∙ sym (ap (freed_by_put old.profile old.caches c.args.w r) c.requires.length) in
    let now : c.put.new.self ≡ record old { caches = put_range old.profile old.caches c.args.w r (order_of r.len) } = rw c.requires.length (rw c.lo.ensures at c.put.ensures.left) in
    exchanges_put c.args.tree.now c.args.tree.now old c.put.new.self c.args.w r [] c.requires.backed c.requires.worker sent now c.put.ensures.sound (frees_none c.args.tree.now c.requires.backed.space)
