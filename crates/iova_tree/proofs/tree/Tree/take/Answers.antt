use Rattle.std.proofs.Common.{◌≡◌, ◌+◌, min, refl, sym, ◌∙◌, arith}
use Rattle.iova_model.proofs.Placing.{best-place}
use Rattle.iova_tree.specs.Fit.{IsWanted}
use Rattle.iova_tree.specs.declared.search.Wanted.{Wanted}
use Rattle.iova_tree.specs.Space.{ranges_of, space_of}
use Rattle.iova_tree.proofs.Allocated.{kept_space}
use Rattle.iova_tree.proofs.Takes.{found_best, is_taken}
use Rattle.iova_tree.proofs.tree.Tree.take.Goals as goal

pub invariant_of-self-in-Taken : goal.invariant_of-self-in-Taken
invariant_of-self-in-Taken c =
    let i = c.self.inside in
    let w : Wanted = record { size = c.args.size; align = c.align_of.result; cap = c.min.result + 1 } in
    let wanted : IsWanted w = record { some = c.requires.some; bounded = c.requires.bounded; align = c.align_of.ensures.computed; small = omega (arith, c.min.ensures, c.last-last.ensures.small) } in
    let cap : w.cap ≡ min c.args.limit i.bounds.last + 1 = rw (c.min.ensures, c.last-last.ensures.is) refl in
    let best_is = found_best i.bounds i.ranges i.windows.items w c.args.limit wanted cap c.self.invariant in
    let e = rw c.start.ensures.is at c.in-Taken.ensures in
    let t = is_taken i.bounds i.ranges i.windows.items w c.args.limit wanted cap c.self.invariant c.in-Taken.lo e.0 in
    rw e.1 t.kept

pub new-range-requires-clause-fits : goal.new-range-requires-clause-fits
new-range-requires-clause-fits c =
    let i = c.self.inside in
    let w : Wanted = record { size = c.args.size; align = c.align_of.result; cap = c.min.result + 1 } in
    let wanted : IsWanted w = record { some = c.requires.some; bounded = c.requires.bounded; align = c.align_of.ensures.computed; small = omega (arith, c.min.ensures, c.last-last.ensures.small) } in
    let cap : w.cap ≡ min c.args.limit i.bounds.last + 1 = rw (c.min.ensures, c.last-last.ensures.is) refl in
    let best_is = found_best i.bounds i.ranges i.windows.items w c.args.limit wanted cap c.self.invariant in
    let e = rw c.start.ensures.is at c.in-At.ensures in
    let place = best-place i.bounds (ranges_of (space_of i.bounds i.ranges i.windows.items)) c.args.size c.args.limit c.in-At.lo c.requires.some (sym e.0 ∙ best_is) in
    omega (arith, place.last, c.last-last.ensures.is, c.last-last.ensures.small)

pub new-requires-clause-fits : goal.new-requires-clause-fits
new-requires-clause-fits c =
    let i = c.self.inside in
    let w : Wanted = record { size = c.args.size; align = c.align_of.result; cap = c.min.result + 1 } in
    let wanted : IsWanted w = record { some = c.requires.some; bounded = c.requires.bounded; align = c.align_of.ensures.computed; small = omega (arith, c.min.ensures, c.last-last.ensures.small) } in
    let cap : w.cap ≡ min c.args.limit i.bounds.last + 1 = rw (c.min.ensures, c.last-last.ensures.is) refl in
    let best_is = found_best i.bounds i.ranges i.windows.items w c.args.limit wanted cap c.self.invariant in
    let e = rw c.start.ensures.is at c.in-Taken.ensures in
    let place = best-place i.bounds (ranges_of (space_of i.bounds i.ranges i.windows.items)) c.args.size c.args.limit c.in-Taken.lo c.requires.some (sym e.0 ∙ best_is) in
    omega (arith, place.last, c.last-last.ensures.is, c.last-last.ensures.small)

pub insert-requires-clause-inside : goal.insert-requires-clause-inside
insert-requires-clause-inside c =
    let i = c.self.inside in
    let w : Wanted = record { size = c.args.size; align = c.align_of.result; cap = c.min.result + 1 } in
    let wanted : IsWanted w = record { some = c.requires.some; bounded = c.requires.bounded; align = c.align_of.ensures.computed; small = omega (arith, c.min.ensures, c.last-last.ensures.small) } in
    let cap : w.cap ≡ min c.args.limit i.bounds.last + 1 = rw (c.min.ensures, c.last-last.ensures.is) refl in
    let best_is = found_best i.bounds i.ranges i.windows.items w c.args.limit wanted cap c.self.invariant in
    let e = rw c.start.ensures.is at c.in-At.ensures in
    let place = best-place i.bounds (ranges_of (space_of i.bounds i.ranges i.windows.items)) c.args.size c.args.limit c.in-At.lo c.requires.some (sym e.0 ∙ best_is) in
    rw c.new-range.ensures (record { some = c.requires.some; start = place.start; last = place.last })

pub insert-requires-clause-free : goal.insert-requires-clause-free
insert-requires-clause-free c =
    let i = c.self.inside in
    let w : Wanted = record { size = c.args.size; align = c.align_of.result; cap = c.min.result + 1 } in
    let wanted : IsWanted w = record { some = c.requires.some; bounded = c.requires.bounded; align = c.align_of.ensures.computed; small = omega (arith, c.min.ensures, c.last-last.ensures.small) } in
    let cap : w.cap ≡ min c.args.limit i.bounds.last + 1 = rw (c.min.ensures, c.last-last.ensures.is) refl in
    let best_is = found_best i.bounds i.ranges i.windows.items w c.args.limit wanted cap c.self.invariant in
    let e = rw c.start.ensures.is at c.in-At.ensures in
    let place = best-place i.bounds (ranges_of (space_of i.bounds i.ranges i.windows.items)) c.args.size c.args.limit c.in-At.lo c.requires.some (sym e.0 ∙ best_is) in
    rw (c.new-range.ensures, e.1) place.clear

pub returns-in_default-clause-fits : goal.returns-in_default-clause-fits
returns-in_default-clause-fits c =
    let i = c.self.inside in
    let w : Wanted = record { size = c.args.size; align = c.align_of.result; cap = c.min.result + 1 } in
    let wanted : IsWanted w = record { some = c.requires.some; bounded = c.requires.bounded; align = c.align_of.ensures.computed; small = omega (arith, c.min.ensures, c.last-last.ensures.small) } in
    let cap : w.cap ≡ min c.args.limit i.bounds.last + 1 = rw (c.min.ensures, c.last-last.ensures.is) refl in
    let best_is = found_best i.bounds i.ranges i.windows.items w c.args.limit wanted cap c.self.invariant in
    let e = rw c.start.ensures.is at c.in-At.ensures in
    rw (← c.self.view_is, ← best_is, e.0) refl

pub returns-in-Nowhere-clause-nothing : goal.returns-in-Nowhere-clause-nothing
returns-in-Nowhere-clause-nothing c =
    let i = c.self.inside in
    let w : Wanted = record { size = c.args.size; align = c.align_of.result; cap = c.min.result + 1 } in
    let wanted : IsWanted w = record { some = c.requires.some; bounded = c.requires.bounded; align = c.align_of.ensures.computed; small = omega (arith, c.min.ensures, c.last-last.ensures.small) } in
    let cap : w.cap ≡ min c.args.limit i.bounds.last + 1 = rw (c.min.ensures, c.last-last.ensures.is) refl in
    let best_is = found_best i.bounds i.ranges i.windows.items w c.args.limit wanted cap c.self.invariant in
    let e = rw c.start.ensures.is at c.in-Nowhere.ensures in
    rw (← c.self.view_is) (sym best_is ∙ e.0)

pub returns-in-Nowhere-clause-space : goal.returns-in-Nowhere-clause-space
returns-in-Nowhere-clause-space c =
    let i = c.self.inside in
    let w : Wanted = record { size = c.args.size; align = c.align_of.result; cap = c.min.result + 1 } in
    let wanted : IsWanted w = record { some = c.requires.some; bounded = c.requires.bounded; align = c.align_of.ensures.computed; small = omega (arith, c.min.ensures, c.last-last.ensures.small) } in
    let cap : w.cap ≡ min c.args.limit i.bounds.last + 1 = rw (c.min.ensures, c.last-last.ensures.is) refl in
    let best_is = found_best i.bounds i.ranges i.windows.items w c.args.limit wanted cap c.self.invariant in
    let e = rw c.start.ensures.is at c.in-Nowhere.ensures in
    rw e.1 (kept_space i.bounds i.ranges i.windows.items c.self.invariant)

pub returns-in-Taken-clause-highest : goal.returns-in-Taken-clause-highest
returns-in-Taken-clause-highest c =
    let i = c.self.inside in
    let w : Wanted = record { size = c.args.size; align = c.align_of.result; cap = c.min.result + 1 } in
    let wanted : IsWanted w = record { some = c.requires.some; bounded = c.requires.bounded; align = c.align_of.ensures.computed; small = omega (arith, c.min.ensures, c.last-last.ensures.small) } in
    let cap : w.cap ≡ min c.args.limit i.bounds.last + 1 = rw (c.min.ensures, c.last-last.ensures.is) refl in
    let best_is = found_best i.bounds i.ranges i.windows.items w c.args.limit wanted cap c.self.invariant in
    let e = rw c.start.ensures.is at c.in-Taken.ensures in
    let t = is_taken i.bounds i.ranges i.windows.items w c.args.limit wanted cap c.self.invariant c.in-Taken.lo e.0 in
    rw (← c.self.view_is, c.new.ensures) (sym e.0 ∙ best_is)

pub returns-in-Taken-clause-taken : goal.returns-in-Taken-clause-taken
returns-in-Taken-clause-taken c =
    let i = c.self.inside in
    let w : Wanted = record { size = c.args.size; align = c.align_of.result; cap = c.min.result + 1 } in
    let wanted : IsWanted w = record { some = c.requires.some; bounded = c.requires.bounded; align = c.align_of.ensures.computed; small = omega (arith, c.min.ensures, c.last-last.ensures.small) } in
    let cap : w.cap ≡ min c.args.limit i.bounds.last + 1 = rw (c.min.ensures, c.last-last.ensures.is) refl in
    let best_is = found_best i.bounds i.ranges i.windows.items w c.args.limit wanted cap c.self.invariant in
    let e = rw c.start.ensures.is at c.in-Taken.ensures in
    let t = is_taken i.bounds i.ranges i.windows.items w c.args.limit wanted cap c.self.invariant c.in-Taken.lo e.0 in
    rw (← c.self.view_is, c.new.ensures, e.1, t.inserted) refl

pub returns-in-Taken-clause-space : goal.returns-in-Taken-clause-space
returns-in-Taken-clause-space c =
    let i = c.self.inside in
    let w : Wanted = record { size = c.args.size; align = c.align_of.result; cap = c.min.result + 1 } in
    let wanted : IsWanted w = record { some = c.requires.some; bounded = c.requires.bounded; align = c.align_of.ensures.computed; small = omega (arith, c.min.ensures, c.last-last.ensures.small) } in
    let cap : w.cap ≡ min c.args.limit i.bounds.last + 1 = rw (c.min.ensures, c.last-last.ensures.is) refl in
    let best_is = found_best i.bounds i.ranges i.windows.items w c.args.limit wanted cap c.self.invariant in
    let e = rw c.start.ensures.is at c.in-Taken.ensures in
    let t = is_taken i.bounds i.ranges i.windows.items w c.args.limit wanted cap c.self.invariant c.in-Taken.lo e.0 in
    rw e.1 (kept_space i.bounds _ i.windows.items t.kept)

pub returns-in-Ok-clause-highest : goal.returns-in-Ok-clause-highest
returns-in-Ok-clause-highest c =
    let i = c.self.inside in
    let w : Wanted = record { size = c.args.size; align = c.align_of.result; cap = c.min.result + 1 } in
    let wanted : IsWanted w = record { some = c.requires.some; bounded = c.requires.bounded; align = c.align_of.ensures.computed; small = omega (arith, c.min.ensures, c.last-last.ensures.small) } in
    let cap : w.cap ≡ min c.args.limit i.bounds.last + 1 = rw (c.min.ensures, c.last-last.ensures.is) refl in
    let best_is = found_best i.bounds i.ranges i.windows.items w c.args.limit wanted cap c.self.invariant in
    let e = rw c.start.ensures.is at c.in-At.ensures in
    let place = best-place i.bounds (ranges_of (space_of i.bounds i.ranges i.windows.items)) c.args.size c.args.limit c.in-At.lo c.requires.some (sym e.0 ∙ best_is) in
    rw (← c.self.view_is, c.new-range.ensures) (sym e.0 ∙ best_is)

pub take_highest-requires-clause-some : goal.take_highest-requires-clause-some
take_highest-requires-clause-some c = rw c.start.ensures.is c.self.invariant.bounds.bounds.above_zero
