use Rattle.std.proofs.Common.{◌<◌, length, refl, sym, ◌∙◌, arith}
use Rattle.iova_tree.proofs.Spans.{end_after-any, length-with, room_between-after}
use Rattle.iova_tree.proofs.Fits.{highest_after-no_room, highest_after-above_cap}
use Rattle.iova_tree.proofs.Found.{comes_in}
use Rattle.iova_tree.specs.Fit.{taken}
use Rattle.iova_tree.proofs.Branches.{room_after-first, first_with}
use Rattle.iova_tree.proofs.branch.take_below.Goals as goal

pub returns-then-link-wanted-clause-found : goal.returns-then-link-wanted-clause-found
returns-then-link-wanted-clause-found g c =
    let l = g.N.Node.spans c.args.link.now.node in
    let k = c.requires.linked in
    let first = room_after-first c.args.from l k.some in
    let gap = rw k.first_is at c.requires.gap in
    (highest_after-no_room c.args.wanted.now c.args.from l c.requires.wanted (omega (arith, first, gap, k.room_most, c.if-link-wanted.true)), refl)

pub returns-then-wanted-from-clause-found : goal.returns-then-wanted-from-clause-found
returns-then-wanted-from-clause-found g c =
    let l = g.N.Node.spans c.args.link.now.node in
    (highest_after-above_cap c.args.wanted.now c.args.from l c.requires.wanted c.requires.rising c.if-wanted-from.true, refl)

pub returns-in-Taken-clause-linked : goal.returns-in-Taken-clause-linked
returns-in-Taken-clause-linked g c =
    let l = g.N.Node.spans c.args.link.now.node in
    let k = c.requires.linked in
    let from = c.args.from in
    let found = c.in-Taken.ensures.found in
    let x = taken c.args.wanted.now c.in-Taken.lo in
    let i = comes_in c.args.wanted.now from l c.in-Taken.lo c.requires.wanted c.requires.rising found.0 in
    let some : 0 < length (g.N.Node.spans c.take-found.new.self) = rw (found.1, length-with x l) (omega (arith, k.some)) in
    let after = room_between-after from (g.N.Node.spans c.take-found.new.self) in
    record {
      some = some;
      first_is = rw (c.min-link.ensures, found.1, first_with x l k.some, k.first_is) (omega arith);
      end_is = k.end_is ∙ end_after-any 0 from l k.some ∙ sym i.same_end ∙ (rw (← found.1) (end_after-any from 0 (g.N.Node.spans c.take-found.new.self) some));
      room_most = omega (arith, after, c.in-Taken.ensures.room);
    }
