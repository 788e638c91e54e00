use Rattle.std.proofs.Common.{◌+◌, refl, sym, ap, ◌∙◌, arith, take, drop}
use Rattle.iova_tree.specs.Branches.{spans_below}
use Rattle.iova_tree.proofs.Blocks.{room_between-bounded}
use Rattle.iova_tree.proofs.Places.{parts_are, own_rises, set_same, set_grown, whole_back, cut_low, cut_high, cut_same}
use Rattle.iova_tree.proofs.branch.split_at.Goals as goal

pub split_below-requires-clause-linked : goal.split_below-requires-clause-linked
split_below-requires-clause-linked g c =
    rw c.index_mut.ensures.value (parts_are g.N.Node.spans c.reserve.new.self.items c.args.at c.index_mut.result.now (rw c.in_ok-reserve.ensures.items c.requires.within) (rw c.in_ok-reserve.ensures.items c.requires.linked) (rw c.in_ok-reserve.ensures.items c.requires.rising)).own

pub split_below-requires-clause-rising : goal.split_below-requires-clause-rising
split_below-requires-clause-rising g c =
    rw c.index_mut.ensures.value (own_rises g.N.Node.spans c.reserve.new.self.items c.args.at c.index_mut.result.now (rw c.in_ok-reserve.ensures.items c.requires.within) (rw c.in_ok-reserve.ensures.items c.requires.linked) (rw c.in_ok-reserve.ensures.items c.requires.rising))

pub returns-in_err-high-clause-linked : goal.returns-in_err-high-clause-linked
returns-in_err-high-clause-linked g c =
    let e = rw c.index_mut.ensures.value at c.in_err-high.ensures.err in
    let linked = c.in_err-high.ensures.linked in
    set_grown g.N.Node.spans c.reserve.new.self.items c.args.at c.index_mut.result.now (rw c.in_ok-reserve.ensures.items c.requires.within) (rw c.in_ok-reserve.ensures.items c.requires.linked) (rw c.in_ok-reserve.ensures.items c.requires.rising) c.split_below.new.link linked (omega (arith, e.first)) (omega (arith, e.end)) (omega (arith, e.room))

pub returns-in_err-high-clause-same : goal.returns-in_err-high-clause-same
returns-in_err-high-clause-same g c =
    let e = rw c.index_mut.ensures.value at c.in_err-high.ensures.err in
    set_same g.N.Node.spans c.reserve.new.self.items c.args.at c.index_mut.result.now (rw c.in_ok-reserve.ensures.items c.requires.within) (rw c.in_ok-reserve.ensures.items c.requires.linked) (rw c.in_ok-reserve.ensures.items c.requires.rising) c.split_below.new.link e.ranges ∙ rw c.in_ok-reserve.ensures.items refl

pub returns-in_default-clause-linked : goal.returns-in_default-clause-linked
returns-in_default-clause-linked g c =
    let e = rw c.in_default.is at (rw c.index_mut.ensures.value at c.in_ok-high.ensures.none) in
    let linked = c.in_ok-high.ensures.linked in
    set_grown g.N.Node.spans c.reserve.new.self.items c.args.at c.index_mut.result.now (rw c.in_ok-reserve.ensures.items c.requires.within) (rw c.in_ok-reserve.ensures.items c.requires.linked) (rw c.in_ok-reserve.ensures.items c.requires.rising) c.split_below.new.link linked (omega (arith, e.first)) (omega (arith, e.end)) (omega (arith, e.room))

pub returns-in_default-clause-same : goal.returns-in_default-clause-same
returns-in_default-clause-same g c =
    let e = rw c.in_default.is at (rw c.index_mut.ensures.value at c.in_ok-high.ensures.none) in
    set_same g.N.Node.spans c.reserve.new.self.items c.args.at c.index_mut.result.now (rw c.in_ok-reserve.ensures.items c.requires.within) (rw c.in_ok-reserve.ensures.items c.requires.linked) (rw c.in_ok-reserve.ensures.items c.requires.rising) c.split_below.new.link e.ranges ∙ rw c.in_ok-reserve.ensures.items refl

pub settle-requires-clause-low : goal.settle-requires-clause-low
settle-requires-clause-low g c =
    rw (c.deref_mut.ensures.value, c.in-Ok.ensures.items) (cut_low g.N.Node.spans c.reserve.new.self.items c.args.at c.index_mut.result.now (rw c.in_ok-reserve.ensures.items c.requires.within) (rw c.in_ok-reserve.ensures.items c.requires.linked) (rw c.in_ok-reserve.ensures.items c.requires.rising) c.split_below.new.link c.in-Some.high)

pub settle-requires-clause-high : goal.settle-requires-clause-high
settle-requires-clause-high g c =
    let e = rw c.in-Some.is at (rw c.index_mut.ensures.value at c.in_ok-high.ensures) in
    rw (c.deref_mut.ensures.value, c.in-Ok.ensures.items) (cut_high g.N.Node.spans c.reserve.new.self.items c.args.at c.index_mut.result.now (rw c.in_ok-reserve.ensures.items c.requires.within) (rw c.in_ok-reserve.ensures.items c.requires.linked) (rw c.in_ok-reserve.ensures.items c.requires.rising) c.split_below.new.link c.in-Some.high e.high e.end)

pub settle-requires-clause-rising : goal.settle-requires-clause-rising
settle-requires-clause-rising g c =
    let e = rw c.in-Some.is at (rw c.index_mut.ensures.value at c.in_ok-high.ensures) in
    let same = cut_same g.N.Node.spans c.reserve.new.self.items c.args.at c.index_mut.result.now (rw c.in_ok-reserve.ensures.items c.requires.within) (rw c.in_ok-reserve.ensures.items c.requires.linked) (rw c.in_ok-reserve.ensures.items c.requires.rising) c.split_below.new.link c.in-Some.high e.cut in
    rw (c.deref_mut.ensures.value, c.in-Ok.ensures.items, same, c.in_ok-reserve.ensures.items) c.requires.rising

pub settle-requires-clause-room_low : goal.settle-requires-clause-room_low
settle-requires-clause-room_low g c =
    room_between-bounded (spans_below g.N.Node.spans (take c.args.at c.deref_mut.result.now))

pub settle-requires-clause-room_high : goal.settle-requires-clause-room_high
settle-requires-clause-room_high g c =
    room_between-bounded (spans_below g.N.Node.spans (drop (c.args.at + 1) c.deref_mut.result.now))

pub returns-clause-same : goal.returns-clause-same
returns-clause-same g c =
    let e = rw c.in-Some.is at (rw c.index_mut.ensures.value at c.in_ok-high.ensures) in
    let cut = cut_same g.N.Node.spans c.reserve.new.self.items c.args.at c.index_mut.result.now (rw c.in_ok-reserve.ensures.items c.requires.within) (rw c.in_ok-reserve.ensures.items c.requires.linked) (rw c.in_ok-reserve.ensures.items c.requires.rising) c.split_below.new.link c.in-Some.high e.cut in
    let same = c.settle.ensures.same ∙ ap (spans_below g.N.Node.spans) (c.deref_mut.ensures.value ∙ c.in-Ok.ensures.items) ∙ cut ∙ ap (spans_below g.N.Node.spans) c.in_ok-reserve.ensures.items in
    rw (whole_back c.insert.new.self.len c.settle.new.links c.insert.new.self.items (omega (arith, c.settle.ensures.count, c.deref_mut.ensures.len)) (rw (sym c.deref_mut.ensures.value) c.deref_mut.ensures.len)) same
