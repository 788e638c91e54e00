use Rattle.std.proofs.Common.{◌≡◌, [], ◌∷◌, ◌++◌, map, drop, length, length-append, length-drop, ap, sym, ◌∙◌, arith}
use Rattle.std.proofs.lemmas.List.{map-append, drop-append-le}
use Rattle.iova_model.specs.Flushes.{entry_range}
use Rattle.iova_core.specs.Reclaim.{IsBacked}
use Rattle.iova_core.proofs.Reclaims.{has_low, backed_has, backed_first}
use Rattle.iova_core.proofs.Drains.{drained_none, drained_backed, drained_few, drained_next, drained_row, drained_out, backed_front, sized_front}
use Rattle.iova_core.proofs.reclaim.drain_flushed.Goals as goal

pub loop-entry-init : goal.loop-entry-init
loop-entry-init c = drained_none c.args.tree.now c.args.caches.now c.args.ring.now c.args.w c.args.finish _ c.requires.backed

pub new-requires-clause-fits : goal.new-requires-clause-fits
new-requires-clause-fits c =
    let e = c.in-Some.entry in
    let all = drained_backed _ _ _ _ _ _ _ _ _ c.loop-entry.invariant c.requires.backed in
    let first : IsBacked c.loop-entry.tree c.loop-entry.caches (entry_range e ∷ []) = backed_first _ _ (entry_range e) (map entry_range c.take_flushed.new.self) (rw c.in-Some.ensures.oldest at all) in
    let low = has_low c.loop-entry.tree (entry_range e) first.space (backed_has _ _ _ first) in
    omega (arith, low)

pub put_back-requires-clause-worker : goal.put_back-requires-clause-worker
put_back-requires-clause-worker c = omega (arith, c.requires.worker, c.loop-entry.invariant.exchange.workers)

pub put_back-requires-clause-backed : goal.put_back-requires-clause-backed
put_back-requires-clause-backed c =
    let e = c.in-Some.entry in
    let all = drained_backed _ _ _ _ _ _ _ _ _ c.loop-entry.invariant c.requires.backed in
    rw c.new.ensures (backed_first _ _ (entry_range e) (map entry_range c.take_flushed.new.self) (rw c.in-Some.ensures.oldest at all))

pub overflow_add-count : goal.overflow_add-count
overflow_add-count c = let few = drained_few _ _ _ _ _ _ _ _ _ c.loop-entry.invariant c.requires.room in omega (arith, few)

pub put_row-taken-requires-clause-worker : goal.put_row-taken-requires-clause-worker
put_row-taken-requires-clause-worker c = omega (arith, c.requires.worker, c.loop-entry.invariant.exchange.workers, c.put_back.ensures.backed.workers)

pub put_row-taken-requires-clause-sized : goal.put_row-taken-requires-clause-sized
put_row-taken-requires-clause-sized c = sized_front _ _ _ c.as_slices.ensures.is c.as_slices.ensures.sized

pub put_row-taken-requires-clause-backed : goal.put_row-taken-requires-clause-backed
put_row-taken-requires-clause-backed c =
    let one = drained_next _ _ _ _ _ _ _ _ _ c.loop-entry.invariant c.put_back.new.tree c.put_back.new.caches c.in-Some.entry c.take_flushed.new.self
    c.in-Some.ensures.oldest c.in-Some.ensures.next c.in-Some.ensures.rest (rw c.new.ensures at c.put_back.ensures.caches) (rw c.new.ensures at c.put_back.ensures.backed) in
    let left = drained_backed _ _ _ _ _ _ _ _ _ one c.requires.backed in
    backed_front _ _ _ (map entry_range c.as_slices.result.0.now) (map entry_range c.as_slices.result.1.now) left
    (ap (map entry_range) (sym c.as_slices.ensures.is) ∙ map-append entry_range c.as_slices.result.0.now c.as_slices.result.1.now)

pub overflow_add-count-in-Some : goal.overflow_add-count-in-Some
overflow_add-count-in-Some c =
    let few = drained_few _ _ _ _ _ _ _ _ _ c.loop-entry.invariant c.requires.room in
    omega (arith, few, c.put_row-taken.ensures.within, c.as_slices.ensures.bounded, ap length c.as_slices.ensures.is, length-append c.as_slices.result.0.now c.as_slices.result.1.now)

pub loop-entry-smaller : goal.loop-entry-smaller
loop-entry-smaller c =
    omega (arith, ap length c.in-Some.ensures.oldest, ap length c.drop_oldest.ensures, length-drop c.put_row-taken.result.0 c.take_flushed.new.self)

pub loop-entry-preserved : goal.loop-entry-preserved
loop-entry-preserved c =
    let one = drained_next _ _ _ _ _ _ _ _ _ c.loop-entry.invariant c.put_back.new.tree c.put_back.new.caches c.in-Some.entry c.take_flushed.new.self
    c.in-Some.ensures.oldest c.in-Some.ensures.next c.in-Some.ensures.rest (rw c.new.ensures at c.put_back.ensures.caches) (rw c.new.ensures at c.put_back.ensures.backed) in
    let row = c.as_slices.result.0.now in
    let rest = c.as_slices.result.1.now in
    let all = drained_row _ _ _ _ _ _ _ _ _ one c.put_row-taken.new.tree c.put_row-taken.new.caches row _ rest _ (sym c.as_slices.ensures.is) c.put_row-taken.ensures.drained in
    let left : drop c.put_row-taken.result.0 row ++ rest ≡ c.drop_oldest.new.self =
    sym (drop-append-le c.put_row-taken.result.0 row rest c.put_row-taken.ensures.within) ∙ (ap (drop c.put_row-taken.result.0) c.as_slices.ensures.is ∙ sym c.drop_oldest.ensures) in
    rw left at all

pub returns-clause-count : goal.returns-clause-count
returns-clause-count c =
    let out = drained_out _ _ _ _ _ _ _ _ _ c.loop-entry.invariant c.in_default.ensures.next in
    c.loop-entry.invariant.counted ∙ sym (ap length out)

pub returns-clause-ring : goal.returns-clause-ring
returns-clause-ring c = sym c.in_default.ensures.left ∙ (c.in_default.ensures.rest ∙ sym c.loop-entry.invariant.left)

pub returns-clause-caches : goal.returns-clause-caches
returns-clause-caches c =
    let out = drained_out _ _ _ _ _ _ _ _ _ c.loop-entry.invariant c.in_default.ensures.next in
    rw out c.loop-entry.invariant.caches

pub returns-clause-backed : goal.returns-clause-backed
returns-clause-backed c =
    let out = drained_out _ _ _ _ _ _ _ _ _ c.loop-entry.invariant c.in_default.ensures.next in
    rw out c.loop-entry.invariant.exchange
