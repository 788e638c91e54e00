use Rattle.std.proofs.Common.{◌≡◌, None, refl, sym, ◌∙◌, arith}
use Rattle.iova_tree.specs.Fit.{place}
use Rattle.iova_tree.specs.Spans.{end_after}
use Rattle.iova_tree.proofs.Spans.{room_between-after}
use Rattle.iova_tree.proofs.Fits.{wanted_power, highest_after-no_room}
use Rattle.iova_tree.proofs.ranges.Ranges.take_highest.Goals as goal

pub place_in-requires : goal.place_in-requires
place_in-requires c = wanted_power _ c.requires.wanted

pub returns-then-self-wanted : goal.returns-then-self-wanted
returns-then-self-wanted c =
    let above : place (end_after c.args.start c.args.self.now) c.args.wanted.now.cap c.args.wanted.now ≡ None = rw c.end_or.ensures at (sym c.place_in.ensures ∙ c.in_default.is) in
    let below = highest_after-no_room c.args.wanted.now c.args.start c.args.self.now c.requires.wanted (omega (arith, c.room_from-self-inside.ensures, c.if-self-wanted.true)) in
    (rw (above, below) refl, c.self.view_is)

pub invariant_of-self : goal.invariant_of-self
invariant_of-self c =
    let most = rw (← c.self.view_is) at c.room_from-self-inside.ensures in
    omega (arith, room_between-after c.args.start c.self.inside.root, most)

pub take-requires-clause-rising : goal.take-requires-clause-rising
take-requires-clause-rising c = rw c.self.view_is c.requires.rising

pub take-requires-clause-room : goal.take-requires-clause-room
take-requires-clause-room c = rw c.self.view_is c.room_from-self-inside.ensures

pub returns : goal.returns
returns c =
    let above : place (end_after c.args.start c.args.self.now) c.args.wanted.now.cap c.args.wanted.now ≡ None = rw c.end_or.ensures at (sym c.place_in.ensures ∙ c.in_default.is) in
    let found = rw c.self.view_is at c.take.ensures.found in
    rw above found
