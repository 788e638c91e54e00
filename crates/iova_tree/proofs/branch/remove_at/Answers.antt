use Rattle.std.proofs.Common.{◌≡◌, ◌+◌, sym, ap, ◌∙◌, arith, take, drop, slice_index_or, slice_set}
use Rattle.std.proofs.lemmas.List.{get_or_default, length-take-le}
use Rattle.iova_tree.specs.Spans.{with_span}
use Rattle.iova_tree.specs.Branches.{spans_below}
use Rattle.iova_tree.proofs.Branches.{take_set, drop_behind, index_set}
use Rattle.iova_tree.proofs.Bounds.{drop_later, drop_past, drop_two, same_behind, fewer_behind}
use Rattle.iova_tree.specs.declared.branch.Link.{Link}
use Rattle.iova_tree.proofs.Places.{set_grown, room_set, front_linked, front_room, parts_are, own_held, own_rises, set_spans, gone_rises, gone_taken, room_left, room_right, none_rises, none_taken, none_low, none_high, none_room_low, none_room_high, removed_set, behind_alone_at, whole_back}
use Rattle.iova_tree.proofs.branch.remove_at.Goals as goal

pub remove_below-gone-requires-clause-linked : goal.remove_below-gone-requires-clause-linked
remove_below-gone-requires-clause-linked g c = rw c.index_mut.ensures.value (parts_are g.N.Node.spans c.args.links.now.items c.args.at c.index_mut.result.now c.requires.leads.within c.requires.linked c.requires.rising).own

pub remove_below-gone-requires-clause-held : goal.remove_below-gone-requires-clause-held
remove_below-gone-requires-clause-held g c = rw c.index_mut.ensures.value (own_held g.N.Node.spans c.args.links.now.items c.args.at c.index_mut.result.now c.requires.leads.within c.requires.linked c.requires.rising c.args.lo c.requires.leads c.requires.held)

pub remove_below-gone-requires-clause-rising : goal.remove_below-gone-requires-clause-rising
remove_below-gone-requires-clause-rising g c = rw c.index_mut.ensures.value (own_rises g.N.Node.spans c.args.links.now.items c.args.at c.index_mut.result.now c.requires.leads.within c.requires.linked c.requires.rising)

pub raise_at-requires-clause-low : goal.raise_at-requires-clause-low
raise_at-requires-clause-low g c =
    let n = c.remove_below-gone.new.link in
    let e = rw c.index_mut.ensures.value at c.remove_below-gone.ensures in
    let own = c.index-3.ensures ∙ index_set c.args.links.now.items c.args.at n c.index-3.result.now c.requires.leads.within in
    let none = rw own at (c.is_empty.ensures.nothing c.if-is_empty.true) in
    let is = c.deref_mut.ensures.value ∙ c.remove.ensures.items ∙ removed_set c.args.links.now.items c.args.at n in
    rw is (none_low g.N.Node.spans c.args.links.now.items c.args.at c.index_mut.result.now c.requires.leads.within c.requires.linked c.requires.rising c.args.lo c.requires.leads c.remove_below-gone.result e.begins n e.taken none)

pub raise_at-requires-clause-high : goal.raise_at-requires-clause-high
raise_at-requires-clause-high g c =
    let n = c.remove_below-gone.new.link in
    let e = rw c.index_mut.ensures.value at c.remove_below-gone.ensures in
    let own = c.index-3.ensures ∙ index_set c.args.links.now.items c.args.at n c.index-3.result.now c.requires.leads.within in
    let none = rw own at (c.is_empty.ensures.nothing c.if-is_empty.true) in
    let is = c.deref_mut.ensures.value ∙ c.remove.ensures.items ∙ removed_set c.args.links.now.items c.args.at n in
    rw is (none_high g.N.Node.spans c.args.links.now.items c.args.at c.index_mut.result.now c.requires.leads.within c.requires.linked c.requires.rising c.args.lo c.requires.leads c.remove_below-gone.result e.begins n e.taken none)

pub raise_at-requires-clause-rising : goal.raise_at-requires-clause-rising
raise_at-requires-clause-rising g c =
    let n = c.remove_below-gone.new.link in
    let e = rw c.index_mut.ensures.value at c.remove_below-gone.ensures in
    let own = c.index-3.ensures ∙ index_set c.args.links.now.items c.args.at n c.index-3.result.now c.requires.leads.within in
    let none = rw own at (c.is_empty.ensures.nothing c.if-is_empty.true) in
    let is = c.deref_mut.ensures.value ∙ c.remove.ensures.items ∙ removed_set c.args.links.now.items c.args.at n in
    rw is (none_rises g.N.Node.spans c.args.links.now.items c.args.at c.index_mut.result.now c.requires.leads.within c.requires.linked c.requires.rising c.args.lo c.requires.leads c.remove_below-gone.result e.begins n e.taken none)

pub raise_at-requires-clause-room_low : goal.raise_at-requires-clause-room_low
raise_at-requires-clause-room_low g c =
    let n = c.remove_below-gone.new.link in
    let e = rw c.index_mut.ensures.value at c.remove_below-gone.ensures in
    let own = c.index-3.ensures ∙ index_set c.args.links.now.items c.args.at n c.index-3.result.now c.requires.leads.within in
    let none = rw own at (c.is_empty.ensures.nothing c.if-is_empty.true) in
    let is = c.deref_mut.ensures.value ∙ c.remove.ensures.items ∙ removed_set c.args.links.now.items c.args.at n in
    rw is (none_room_low g.N.Node.spans c.args.links.now.items c.args.at c.index_mut.result.now c.requires.leads.within c.requires.linked c.requires.rising c.args.lo c.requires.leads c.remove_below-gone.result e.begins n e.taken none c.args.room.now c.requires.room)

pub raise_at-requires-clause-room_high : goal.raise_at-requires-clause-room_high
raise_at-requires-clause-room_high g c =
    let n = c.remove_below-gone.new.link in
    let e = rw c.index_mut.ensures.value at c.remove_below-gone.ensures in
    let own = c.index-3.ensures ∙ index_set c.args.links.now.items c.args.at n c.index-3.result.now c.requires.leads.within in
    let none = rw own at (c.is_empty.ensures.nothing c.if-is_empty.true) in
    let is = c.deref_mut.ensures.value ∙ c.remove.ensures.items ∙ removed_set c.args.links.now.items c.args.at n in
    rw is (none_room_high g.N.Node.spans c.args.links.now.items c.args.at c.index_mut.result.now c.requires.leads.within c.requires.linked c.requires.rising c.args.lo c.requires.leads c.remove_below-gone.result e.begins n e.taken none c.args.room.now c.requires.room)

pub returns-then-is_empty-clause-taken : goal.returns-then-is_empty-clause-taken
returns-then-is_empty-clause-taken g c =
    let n = c.remove_below-gone.new.link in
    let e = rw c.index_mut.ensures.value at c.remove_below-gone.ensures in
    let own = c.index-3.ensures ∙ index_set c.args.links.now.items c.args.at n c.index-3.result.now c.requires.leads.within in
    let none = rw own at (c.is_empty.ensures.nothing c.if-is_empty.true) in
    let is = c.deref_mut.ensures.value ∙ c.remove.ensures.items ∙ removed_set c.args.links.now.items c.args.at n in
    let fact : spans_below g.N.Node.spans c.args.links.now.items ≡ with_span c.remove_below-gone.result (spans_below g.N.Node.spans c.raise_at.new.links) =
    none_taken g.N.Node.spans c.args.links.now.items c.args.at c.index_mut.result.now c.requires.leads.within c.requires.linked c.requires.rising c.args.lo c.requires.leads c.remove_below-gone.result e.begins n e.taken none ∙ ap (with_span c.remove_below-gone.result) (sym (c.raise_at.ensures.same ∙ ap (spans_below g.N.Node.spans) is)) in
    rw (whole_back c.remove.new.self.len c.raise_at.new.links c.remove.new.self.items (omega (arith, c.raise_at.ensures.count, c.deref_mut.ensures.len)) (rw (sym c.deref_mut.ensures.value) c.deref_mut.ensures.len)) fact

pub returns-then-is_empty-clause-others : goal.returns-then-is_empty-clause-others
returns-then-is_empty-clause-others g c =
    let items = c.args.links.now.items in
    let at = c.args.at in
    let n = c.remove_below-gone.new.link in
    let is = c.deref_mut.ensures.value ∙ c.remove.ensures.items ∙ removed_set items at n in
    let long = length-take-le at items (omega (arith, c.requires.leads.within)) in
    let moved = c.raise_at.ensures.others ∙ ap (drop (at + 1)) is ∙ drop_past at (take at items) (drop (at + 1) items) long ∙ drop_two at items in
    rw (whole_back c.remove.new.self.len c.raise_at.new.links c.remove.new.self.items (omega (arith, c.raise_at.ensures.count, c.deref_mut.ensures.len)) (rw (sym c.deref_mut.ensures.value) c.deref_mut.ensures.len)) (fewer_behind at items c.raise_at.new.links moved)

-- where its ranges begin where they did
pub raise_at-requires-then-index-end-clause-low : goal.raise_at-requires-then-index-end-clause-low
raise_at-requires-then-index-end-clause-low g c =
    let items = c.args.links.now.items in
    let at = c.args.at in
    let d = c.index_mut.result.now in
    let lt = c.requires.leads.within in
    let n = c.remove_below-gone.new.link in
    let e = rw c.index_mut.ensures.value at c.remove_below-gone.ensures in
    let own3 = c.index-3.ensures ∙ index_set items at n c.index-3.result.now lt in
    let is = e.linked (rw own3 at (c.is_empty.ensures.something c.if-is_empty.false)) in
    let own4 = c.index-4.ensures ∙ index_set items at n c.index-4.result.now lt in
    let first : n.first ≡ (slice_index_or items at d).first = rw own4 at c.if-index-first.true ∙ ap (λ (x : Link g.row.N.Denot). x.first) (c.index.ensures ∙ get_or_default items at c.index.result.now d lt) in
    rw c.deref_mut-then-index-end.ensures.value (front_linked g.N.Node.spans c.args.links.now.items c.args.at c.index_mut.result.now c.requires.leads.within c.requires.linked c.requires.rising n is first e.known)

pub raise_at-requires-then-index-end-clause-high : goal.raise_at-requires-then-index-end-clause-high
raise_at-requires-then-index-end-clause-high g c =
    rw (c.deref_mut-then-index-end.ensures.value, drop_behind c.args.links.now.items c.args.at c.remove_below-gone.new.link) (behind_alone_at g.N.Node.spans c.args.links.now.items c.args.at c.index_mut.result.now c.requires.leads.within c.requires.linked c.requires.rising)

pub raise_at-requires-then-index-end-clause-rising : goal.raise_at-requires-then-index-end-clause-rising
raise_at-requires-then-index-end-clause-rising g c =
    let e = rw c.index_mut.ensures.value at c.remove_below-gone.ensures in
    rw (c.deref_mut-then-index-end.ensures.value, set_spans g.N.Node.spans c.args.links.now.items c.args.at c.index_mut.result.now c.requires.leads.within c.requires.linked c.requires.rising c.remove_below-gone.new.link) (gone_rises g.N.Node.spans c.args.links.now.items c.args.at c.index_mut.result.now c.requires.leads.within c.requires.linked c.requires.rising c.args.lo c.requires.leads c.remove_below-gone.result e.begins c.remove_below-gone.new.link e.taken)

pub raise_at-requires-then-index-end-clause-room_low : goal.raise_at-requires-then-index-end-clause-room_low
raise_at-requires-then-index-end-clause-room_low g c =
    let items = c.args.links.now.items in
    let at = c.args.at in
    let d = c.index_mut.result.now in
    let lt = c.requires.leads.within in
    let n = c.remove_below-gone.new.link in
    let e = rw c.index_mut.ensures.value at c.remove_below-gone.ensures in
    let own3 = c.index-3.ensures ∙ index_set items at n c.index-3.result.now lt in
    let is = e.linked (rw own3 at (c.is_empty.ensures.something c.if-is_empty.false)) in
    let own4 = c.index-4.ensures ∙ index_set items at n c.index-4.result.now lt in
    let first : n.first ≡ (slice_index_or items at d).first = rw own4 at c.if-index-first.true ∙ ap (λ (x : Link g.row.N.Denot). x.first) (c.index.ensures ∙ get_or_default items at c.index.result.now d lt) in
    let own5 = c.index-then-index-first.ensures ∙ index_set items at n c.index-then-index-first.result.now lt in
    let most = rw own5 at c.max.ensures in
    rw c.deref_mut-then-index-end.ensures.value (front_room g.N.Node.spans c.args.links.now.items c.args.at c.index_mut.result.now c.requires.leads.within c.requires.linked c.requires.rising n is first e.known c.args.room.now c.max.result c.requires.room (omega (arith, most)))

pub raise_at-requires-then-index-end-clause-room_high : goal.raise_at-requires-then-index-end-clause-room_high
raise_at-requires-then-index-end-clause-room_high g c =
    let items = c.args.links.now.items in
    let at = c.args.at in
    let d = c.index_mut.result.now in
    let lt = c.requires.leads.within in
    let n = c.remove_below-gone.new.link in
    let e = rw c.index_mut.ensures.value at c.remove_below-gone.ensures in
    let own3 = c.index-3.ensures ∙ index_set items at n c.index-3.result.now lt in
    let is = e.linked (rw own3 at (c.is_empty.ensures.something c.if-is_empty.false)) in
    let own4 = c.index-4.ensures ∙ index_set items at n c.index-4.result.now lt in
    let first : n.first ≡ (slice_index_or items at d).first = rw own4 at c.if-index-first.true ∙ ap (λ (x : Link g.row.N.Denot). x.first) (c.index.ensures ∙ get_or_default items at c.index.result.now d lt) in
    let own5 = c.index-then-index-first.ensures ∙ index_set items at n c.index-then-index-first.result.now lt in
    let most = rw own5 at c.max.ensures in
    let behind = room_right g.N.Node.spans c.args.links.now.items c.args.at c.index_mut.result.now c.requires.leads.within c.requires.linked c.requires.rising c.args.lo c.requires.leads c.remove_below-gone.result e.begins c.remove_below-gone.new.link e.taken c.args.room.now c.requires.room in
    rw (c.deref_mut-then-index-end.ensures.value, drop_behind items at n) (omega (arith, behind, most))

pub returns-then-index-end-clause-taken : goal.returns-then-index-end-clause-taken
returns-then-index-end-clause-taken g c =
    let e = rw c.index_mut.ensures.value at c.remove_below-gone.ensures in
    let raised = c.raise_at-then-index-end in
    let fact : spans_below g.N.Node.spans c.args.links.now.items ≡ with_span c.remove_below-gone.result (spans_below g.N.Node.spans raised.new.links) =
    gone_taken g.N.Node.spans c.args.links.now.items c.args.at c.index_mut.result.now c.requires.leads.within c.requires.linked c.requires.rising c.args.lo c.requires.leads c.remove_below-gone.result e.begins c.remove_below-gone.new.link e.taken ∙ ap (with_span c.remove_below-gone.result) (sym (raised.ensures.same ∙ ap (spans_below g.N.Node.spans) c.deref_mut-then-index-end.ensures.value ∙ set_spans g.N.Node.spans c.args.links.now.items c.args.at c.index_mut.result.now c.requires.leads.within c.requires.linked c.requires.rising c.remove_below-gone.new.link)) in
    rw (whole_back c.args.links.now.len raised.new.links (slice_set c.args.links.now.items c.args.at c.remove_below-gone.new.link) (omega (arith, raised.ensures.count, c.deref_mut-then-index-end.ensures.len)) (rw (sym c.deref_mut-then-index-end.ensures.value) c.deref_mut-then-index-end.ensures.len)) fact

pub returns-then-index-end-clause-others : goal.returns-then-index-end-clause-others
returns-then-index-end-clause-others g c =
    let items = c.args.links.now.items in
    let at = c.args.at in
    let n = c.remove_below-gone.new.link in
    let raised = c.raise_at-then-index-end in
    let j : at + 1 + 1 ≡ at + 2 = omega arith in
    let others = rw j at raised.ensures.others in
    let same = others ∙ ap (drop (at + 2)) c.deref_mut-then-index-end.ensures.value ∙ drop_later (at + 1) (at + 2) (slice_set items at n) items (omega arith) (drop_behind items at n) in
    rw (whole_back c.args.links.now.len raised.new.links (slice_set items at n) (omega (arith, raised.ensures.count, c.deref_mut-then-index-end.ensures.len)) (rw (sym c.deref_mut-then-index-end.ensures.value) c.deref_mut-then-index-end.ensures.len)) (same_behind (at + 2) items raised.new.links same)

pub returns-else-index-end-clause-linked : goal.returns-else-index-end-clause-linked
returns-else-index-end-clause-linked g c =
    let items = c.args.links.now.items in
    let at = c.args.at in
    let d = c.index_mut.result.now in
    let lt = c.requires.leads.within in
    let n = c.remove_below-gone.new.link in
    let e = rw c.index_mut.ensures.value at c.remove_below-gone.ensures in
    let own3 = c.index-3.ensures ∙ index_set items at n c.index-3.result.now lt in
    let is = e.linked (rw own3 at (c.is_empty.ensures.something c.if-is_empty.false)) in
    let own4 = c.index-4.ensures ∙ index_set items at n c.index-4.result.now lt in
    let first : n.first ≡ (slice_index_or items at d).first = rw own4 at c.if-index-first.true ∙ ap (λ (x : Link g.row.N.Denot). x.first) (c.index.ensures ∙ get_or_default items at c.index.result.now d lt) in
    let own6 = c.index-then-index-first-2.ensures ∙ index_set items at n c.index-then-index-first-2.result.now lt in
    let end : n.end ≡ (slice_index_or items at d).end = rw own6 at c.if-index-end.false ∙ ap (λ (x : Link g.row.N.Denot). x.end) (c.index-2.ensures ∙ get_or_default items at c.index-2.result.now d lt) in
    set_grown g.N.Node.spans c.args.links.now.items c.args.at c.index_mut.result.now c.requires.leads.within c.requires.linked c.requires.rising n is (omega (arith, first)) (omega (arith, end)) e.known

pub returns-else-index-end-clause-taken : goal.returns-else-index-end-clause-taken
returns-else-index-end-clause-taken g c =
    let e = rw c.index_mut.ensures.value at c.remove_below-gone.ensures in
    gone_taken g.N.Node.spans c.args.links.now.items c.args.at c.index_mut.result.now c.requires.leads.within c.requires.linked c.requires.rising c.args.lo c.requires.leads c.remove_below-gone.result e.begins c.remove_below-gone.new.link e.taken
    ∙ ap (with_span c.remove_below-gone.result) (sym (set_spans g.N.Node.spans c.args.links.now.items c.args.at c.index_mut.result.now c.requires.leads.within c.requires.linked c.requires.rising c.remove_below-gone.new.link))

pub returns-else-index-end-clause-room : goal.returns-else-index-end-clause-room
returns-else-index-end-clause-room g c =
    let items = c.args.links.now.items in
    let at = c.args.at in
    let d = c.index_mut.result.now in
    let lt = c.requires.leads.within in
    let n = c.remove_below-gone.new.link in
    let e = rw c.index_mut.ensures.value at c.remove_below-gone.ensures in
    let own3 = c.index-3.ensures ∙ index_set items at n c.index-3.result.now lt in
    let is = e.linked (rw own3 at (c.is_empty.ensures.something c.if-is_empty.false)) in
    let own4 = c.index-4.ensures ∙ index_set items at n c.index-4.result.now lt in
    let first : n.first ≡ (slice_index_or items at d).first = rw own4 at c.if-index-first.true ∙ ap (λ (x : Link g.row.N.Denot). x.first) (c.index.ensures ∙ get_or_default items at c.index.result.now d lt) in
    let own6 = c.index-then-index-first-2.ensures ∙ index_set items at n c.index-then-index-first-2.result.now lt in
    let end : n.end ≡ (slice_index_or items at d).end = rw own6 at c.if-index-end.false ∙ ap (λ (x : Link g.row.N.Denot). x.end) (c.index-2.ensures ∙ get_or_default items at c.index-2.result.now d lt) in
    let own5 = c.index-then-index-first.ensures ∙ index_set items at n c.index-then-index-first.result.now lt in
    let most = rw own5 at c.max.ensures in
    let r = room_set g.N.Node.spans c.args.links.now.items c.args.at c.index_mut.result.now c.requires.leads.within c.requires.linked c.requires.rising n is (omega (arith, first)) (omega (arith, end)) in
    omega (arith, r, most, c.requires.room)

pub returns-else-index-end-clause-others : goal.returns-else-index-end-clause-others
returns-else-index-end-clause-others g c =
    same_behind (c.args.at + 2) c.args.links.now.items _ (drop_later (c.args.at + 1) (c.args.at + 2) _ c.args.links.now.items (omega arith) (drop_behind c.args.links.now.items c.args.at c.remove_below-gone.new.link))

pub settle-requires-clause-low : goal.settle-requires-clause-low
settle-requires-clause-low g c = rw (c.deref_mut-2.ensures.value, take_set c.args.links.now.items c.args.at c.remove_below-gone.new.link) (parts_are g.N.Node.spans c.args.links.now.items c.args.at c.index_mut.result.now c.requires.leads.within c.requires.linked c.requires.rising).low

pub settle-requires-clause-high : goal.settle-requires-clause-high
settle-requires-clause-high g c =
    rw (c.deref_mut-2.ensures.value, drop_behind c.args.links.now.items c.args.at c.remove_below-gone.new.link) (behind_alone_at g.N.Node.spans c.args.links.now.items c.args.at c.index_mut.result.now c.requires.leads.within c.requires.linked c.requires.rising)

pub settle-requires-clause-rising : goal.settle-requires-clause-rising
settle-requires-clause-rising g c =
    let n = c.remove_below-gone.new.link in
    let e = rw c.index_mut.ensures.value at c.remove_below-gone.ensures in
    rw (c.deref_mut-2.ensures.value, set_spans g.N.Node.spans c.args.links.now.items c.args.at c.index_mut.result.now c.requires.leads.within c.requires.linked c.requires.rising n) (gone_rises g.N.Node.spans c.args.links.now.items c.args.at c.index_mut.result.now c.requires.leads.within c.requires.linked c.requires.rising c.args.lo c.requires.leads c.remove_below-gone.result e.begins n e.taken)

pub settle-requires-clause-room_low : goal.settle-requires-clause-room_low
settle-requires-clause-room_low g c =
    let n = c.remove_below-gone.new.link in
    let e = rw c.index_mut.ensures.value at c.remove_below-gone.ensures in
    rw (c.deref_mut-2.ensures.value, take_set c.args.links.now.items c.args.at n) (room_left g.N.Node.spans c.args.links.now.items c.args.at c.index_mut.result.now c.requires.leads.within c.requires.linked c.requires.rising c.args.lo c.requires.leads c.remove_below-gone.result e.begins n e.taken c.args.room.now c.requires.room)

pub settle-requires-clause-room_high : goal.settle-requires-clause-room_high
settle-requires-clause-room_high g c =
    let n = c.remove_below-gone.new.link in
    let e = rw c.index_mut.ensures.value at c.remove_below-gone.ensures in
    rw (c.deref_mut-2.ensures.value, drop_behind c.args.links.now.items c.args.at n) (room_right g.N.Node.spans c.args.links.now.items c.args.at c.index_mut.result.now c.requires.leads.within c.requires.linked c.requires.rising c.args.lo c.requires.leads c.remove_below-gone.result e.begins n e.taken c.args.room.now c.requires.room)

pub returns-clause-taken : goal.returns-clause-taken
returns-clause-taken g c =
    let n = c.remove_below-gone.new.link in
    let e = rw c.index_mut.ensures.value at c.remove_below-gone.ensures in
    let fact : spans_below g.N.Node.spans c.args.links.now.items ≡ with_span c.remove_below-gone.result (spans_below g.N.Node.spans c.settle.new.links) =
    gone_taken g.N.Node.spans c.args.links.now.items c.args.at c.index_mut.result.now c.requires.leads.within c.requires.linked c.requires.rising c.args.lo c.requires.leads c.remove_below-gone.result e.begins n e.taken ∙ ap (with_span c.remove_below-gone.result) (sym (c.settle.ensures.same ∙ ap (spans_below g.N.Node.spans) c.deref_mut-2.ensures.value ∙ set_spans g.N.Node.spans c.args.links.now.items c.args.at c.index_mut.result.now c.requires.leads.within c.requires.linked c.requires.rising n)) in
    rw (whole_back c.args.links.now.len c.settle.new.links (slice_set c.args.links.now.items c.args.at n) (omega (arith, c.settle.ensures.count, c.deref_mut-2.ensures.len)) (rw (sym c.deref_mut-2.ensures.value) c.deref_mut-2.ensures.len)) fact

pub returns-clause-others : goal.returns-clause-others
returns-clause-others g c =
    let items = c.args.links.now.items in
    let at = c.args.at in
    let n = c.remove_below-gone.new.link in
    let same = c.settle.ensures.others ∙ ap (drop (at + 2)) c.deref_mut-2.ensures.value ∙ drop_later (at + 1) (at + 2) (slice_set items at n) items (omega arith) (drop_behind items at n) in
    rw (whole_back c.args.links.now.len c.settle.new.links (slice_set items at n) (omega (arith, c.settle.ensures.count, c.deref_mut-2.ensures.len)) (rw (sym c.deref_mut-2.ensures.value) c.deref_mut-2.ensures.len)) (same_behind (at + 2) items c.settle.new.links same)
