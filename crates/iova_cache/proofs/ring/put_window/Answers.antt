use Rattle.std.proofs.Common.{◌≡◌, ◌+◌, ◌%◌, ℕ, get_or, inl, inr, sym, subst, arith}
use Rattle.iova_cache.specs.Waiting.{window, no_entry}
use Rattle.iova_cache.specs.Caches.{IsSettling}
use Rattle.iova_cache.proofs.Windows.{length_window, entry_at, cached_at}
use Rattle.iova_cache.proofs.Settling.{goes_none, goes_more, stops, ends}
use Rattle.iova_cache.proofs.ring.put_window.Goals as goal

pub loop-count-init : goal.loop-count-init
loop-count-init c = goes_none c.args.magazines.now (window c.args.slots.now c.args.head c.args.waiting) c.args.newest

pub put_entry-requires : goal.put_entry-requires
put_entry-requires c =
    let e = get_or c.args.slots.now ((c.args.head + c.loop-count.count) % 256) no_entry in
    let long = length_window c.args.slots.now c.args.head c.args.waiting in
    cached_at c.loop-count.count _ e c.requires.cached (omega (arith, long, c.loop-count-test.true)) (sym (entry_at c.args.slots.now c.args.head c.args.waiting c.loop-count.count e c.loop-count-test.true))

pub loop-count-preserved : goal.loop-count-preserved
loop-count-preserved c =
    let e = get_or c.args.slots.now ((c.args.head + c.loop-count.count) % 256) no_entry in
    let long = length_window c.args.slots.now c.args.head c.args.waiting in
    goes_more c.args.magazines.now c.loop-count.magazines c.put_entry.new.magazines (window c.args.slots.now c.args.head c.args.waiting) c.args.newest c.loop-count.count e c.loop-count.invariant
    (omega (arith, long, c.loop-count-test.true)) (sym (entry_at c.args.slots.now c.args.head c.args.waiting c.loop-count.count e c.loop-count-test.true)) (omega (arith, c.if-newest-entry.false)) c.if-not-put_entry.ensures.put

pub returns-then-newest-entry : goal.returns-then-newest-entry
returns-then-newest-entry c =
    let e = get_or c.args.slots.now ((c.args.head + c.loop-count.count) % 256) no_entry in
    let long = length_window c.args.slots.now c.args.head c.args.waiting in
    stops c.args.magazines.now c.loop-count.magazines (window c.args.slots.now c.args.head c.args.waiting) c.args.newest c.loop-count.count e c.loop-count.invariant
    (omega (arith, long, c.loop-count-test.true)) (sym (entry_at c.args.slots.now c.args.head c.args.waiting c.loop-count.count e c.loop-count-test.true)) (inl (omega (arith, c.if-newest-entry.true)))

pub returns-then-not-put_entry : goal.returns-then-not-put_entry
returns-then-not-put_entry c =
    let e = get_or c.args.slots.now ((c.args.head + c.loop-count.count) % 256) no_entry in
    let long = length_window c.args.slots.now c.args.head c.args.waiting in
    rw c.if-not-put_entry.ensures.unchanged
    (stops c.args.magazines.now c.loop-count.magazines (window c.args.slots.now c.args.head c.args.waiting) c.args.newest c.loop-count.count e c.loop-count.invariant
    (omega (arith, long, c.loop-count-test.true)) (sym (entry_at c.args.slots.now c.args.head c.args.waiting c.loop-count.count e c.loop-count-test.true)) (inr c.if-not-put_entry.ensures.full))

pub returns : goal.returns
returns c =
    let long = length_window c.args.slots.now c.args.head c.args.waiting in
    let all : c.loop-count.count ≡ c.args.waiting = omega (arith, long, c.loop-count.invariant.there, c.loop-count-test.false) in
    subst (λ (n : ℕ). IsSettling c.args.magazines.now c.loop-count.magazines (window c.args.slots.now c.args.head c.args.waiting) c.args.newest n) all
    (ends c.args.magazines.now c.loop-count.magazines (window c.args.slots.now c.args.head c.args.waiting) c.args.newest c.loop-count.count c.loop-count.invariant (omega (arith, long, all)))
