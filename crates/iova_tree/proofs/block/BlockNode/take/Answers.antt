use Rattle.std.proofs.Common.{◌≡◌, ◌+◌, suc, sym, ◌∙◌, arith}
use Rattle.iova_tree.proofs.Spans.{rising-weaken}
use Rattle.iova_tree.proofs.Found.{comes_in}
use Rattle.iova_tree.proofs.Hinted.{start_hinted, drop_inserted}
use Rattle.iova_tree.proofs.block.BlockNode.take.Goals as goal

pub highest_of-found-requires-clause-hinted : goal.highest_of-found-requires-clause-hinted
highest_of-found-requires-clause-hinted c =
    rw c.deref.ensures.value (start_hinted c.self.inside.hint c.start-start.result c.self.inside.spans.items c.len.result c.args.wanted.now.size (c.len.ensures ∙ sym (rw c.deref.ensures.value at c.deref.ensures.len)) c.requires.wanted.bounded c.self.invariant c.start-start.ensures.less c.start-start.ensures.known)

pub overflow_add-lo : goal.overflow_add-lo
overflow_add-lo c =
    let i = comes_in c.args.wanted.now c.args.from c.self.inside.spans.items c.in-Some.lo c.requires.wanted (rw c.self.view_is c.requires.rising) (rw (sym c.deref.ensures.value) (c.highest_of-found.ensures.found ∙ c.in-Some.is)) in
    omega (arith, i.cap, c.requires.wanted.small)

pub new-span-requires : goal.new-span-requires
new-span-requires c =
    let i = comes_in c.args.wanted.now c.args.from c.self.inside.spans.items c.in-Some.lo c.requires.wanted (rw c.self.view_is c.requires.rising) (rw (sym c.deref.ensures.value) (c.highest_of-found.ensures.found ∙ c.in-Some.is)) in
    omega (arith, i.cap, c.requires.wanted.small)

pub hint_once_taken-self-inside-requires-clause-rising : goal.hint_once_taken-self-inside-requires-clause-rising
hint_once_taken-self-inside-requires-clause-rising c =
    let i = comes_in c.args.wanted.now c.args.from c.self.inside.spans.items c.in-Some.lo c.requires.wanted (rw c.self.view_is c.requires.rising) (rw (sym c.deref.ensures.value) (c.highest_of-found.ensures.found ∙ c.in-Some.is)) in
    let place = rw (c.deref.ensures.value, c.in-Some.is) at c.highest_of-found.ensures.place in
    rw (c.deref-2.ensures.value, c.in-Ok.ensures.items, c.new-span.ensures, place) (rising-weaken 0 c.args.from _ (omega arith) i.rising)

pub hint_once_taken-self-inside-requires-clause-hinted : goal.hint_once_taken-self-inside-requires-clause-hinted
hint_once_taken-self-inside-requires-clause-hinted c =
    let at = c.highest_of-found.result.1.at in
    let j : at + 1 ≡ suc at = omega arith in
    let lt = rw c.deref.ensures.value at c.highest_of-found.ensures.within in
    let h = rw c.deref.ensures.value at c.highest_of-found.ensures.hinted in
    rw (c.deref-2.ensures.value, c.in-Ok.ensures.items, j, drop_inserted at c.self.inside.spans.items c.new-span.result (omega (arith, lt))) h

pub room_once_taken-requires-clause-rising : goal.room_once_taken-requires-clause-rising
room_once_taken-requires-clause-rising c =
    let i = comes_in c.args.wanted.now c.args.from c.self.inside.spans.items c.in-Some.lo c.requires.wanted (rw c.self.view_is c.requires.rising) (rw (sym c.deref.ensures.value) (c.highest_of-found.ensures.found ∙ c.in-Some.is)) in
    let place = rw (c.deref.ensures.value, c.in-Some.is) at c.highest_of-found.ensures.place in
    rw (c.deref-3.ensures.value, c.in-Ok.ensures.items, c.new-span.ensures, place) i.rising

pub room_once_taken-requires-clause-known : goal.room_once_taken-requires-clause-known
room_once_taken-requires-clause-known c =
    let i = comes_in c.args.wanted.now c.args.from c.self.inside.spans.items c.in-Some.lo c.requires.wanted (rw c.self.view_is c.requires.rising) (rw (sym c.deref.ensures.value) (c.highest_of-found.ensures.found ∙ c.in-Some.is)) in
    let place = rw (c.deref.ensures.value, c.in-Some.is) at c.highest_of-found.ensures.place in
    let known = rw (sym c.self.view_is) at c.requires.room in
    rw (c.deref-3.ensures.value, c.in-Ok.ensures.items, c.new-span.ensures, place) (omega (arith, i.room, known))
