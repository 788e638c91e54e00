use Rattle.std.proofs.Common.{◌≡◌, ◌+◌, ◌<◌, true, false, length, refl, arith}
use Rattle.std.specs.List.{list_any}
use Rattle.iova_range.specs.Frames.{meets}
use Rattle.iova_tree.specs.Spans.{inserted_of, span_of}
use Rattle.iova_tree.specs.Space.{IsInside, clear_of}
use Rattle.iova_tree.proofs.Allocated.{kept_space, within_lower}
use Rattle.iova_tree.proofs.Joined.{joined}
use Rattle.iova_tree.proofs.Taking.{but_held, rises_but}
use Rattle.iova_tree.proofs.Windows.{rise_filter}
use Rattle.iova_tree.proofs.tree.Tree.join_windows.Goals as goal

pub absorb-window-requires-clause-within : goal.absorb-window-requires-clause-within
absorb-window-requires-clause-within c =
    let b = c.self.inside.bounds in
    let small = rw c.last-last.ensures.is at c.last-last.ensures.small in
    (b.last + 1, omega arith, within_lower 1 b.start (b.last + 1) _ c.self.invariant.bounds.bounds.above_zero c.self.invariant.within)

pub insert_window-requires-clause-some : goal.insert_window-requires-clause-some
insert_window-requires-clause-some c =
    let i = c.self.inside in
    let a = c.absorb-window.ensures in
    let inside : IsInside i.bounds c.args.asked = rw (← c.self.view_is) at c.requires.inside in
    let clear : list_any (meets c.args.asked) (inserted_of i.ranges) ≡ false = rw (← c.self.view_is) at c.requires.clear in
    let few : length (clear_of c.args.asked i.windows.items) < 64 = rw (← c.self.view_is) at c.requires.few in
    let j = joined i.bounds c.args.asked c.in-Some.kept c.absorb-window.result.0 i.ranges c.absorb-window.new.ranges i.windows.items c.absorb-window.new.windows.items c.self.invariant inside clear few (rw c.in-Some.is at a.left) (rw c.in-Some.is at a.part) a.rest a.value in
    j.inside.some

pub insert_window-requires-clause-rise : goal.insert_window-requires-clause-rise
insert_window-requires-clause-rise c =
    let i = c.self.inside in
    let s = kept_space i.bounds i.ranges i.windows.items c.self.invariant in
    (i.bounds.start, i.bounds.last + 1, rw c.absorb-window.ensures.rest (rise_filter i.bounds.start (i.bounds.last + 1) c.args.asked i.windows.items s.windows))

pub insert_window-requires-clause-clear : goal.insert_window-requires-clause-clear
insert_window-requires-clause-clear c =
    let i = c.self.inside in
    let a = c.absorb-window.ensures in
    let inside : IsInside i.bounds c.args.asked = rw (← c.self.view_is) at c.requires.inside in
    let clear : list_any (meets c.args.asked) (inserted_of i.ranges) ≡ false = rw (← c.self.view_is) at c.requires.clear in
    let few : length (clear_of c.args.asked i.windows.items) < 64 = rw (← c.self.view_is) at c.requires.few in
    let j = joined i.bounds c.args.asked c.in-Some.kept c.absorb-window.result.0 i.ranges c.absorb-window.new.ranges i.windows.items c.absorb-window.new.windows.items c.self.invariant inside clear few (rw c.in-Some.is at a.left) (rw c.in-Some.is at a.part) a.rest a.value in
    j.clear

pub overflow_add-hi : goal.overflow_add-hi
overflow_add-hi c =
    let i = c.self.inside in
    let a = c.absorb-window.ensures in
    let inside : IsInside i.bounds c.args.asked = rw (← c.self.view_is) at c.requires.inside in
    let clear : list_any (meets c.args.asked) (inserted_of i.ranges) ≡ false = rw (← c.self.view_is) at c.requires.clear in
    let few : length (clear_of c.args.asked i.windows.items) < 64 = rw (← c.self.view_is) at c.requires.few in
    let j = joined i.bounds c.args.asked c.in-Some.kept c.absorb-window.result.0 i.ranges c.absorb-window.new.ranges i.windows.items c.absorb-window.new.windows.items c.self.invariant inside clear few (rw c.in-Some.is at a.left) (rw c.in-Some.is at a.part) a.rest a.value in
    let small = rw c.last-last.ensures.is at c.last-last.ensures.small in
    rw c.hi.ensures (omega (arith, j.inside.last))

pub new-span-requires : goal.new-span-requires
new-span-requires c =
    let i = c.self.inside in
    let a = c.absorb-window.ensures in
    let inside : IsInside i.bounds c.args.asked = rw (← c.self.view_is) at c.requires.inside in
    let clear : list_any (meets c.args.asked) (inserted_of i.ranges) ≡ false = rw (← c.self.view_is) at c.requires.clear in
    let few : length (clear_of c.args.asked i.windows.items) < 64 = rw (← c.self.view_is) at c.requires.few in
    let j = joined i.bounds c.args.asked c.in-Some.kept c.absorb-window.result.0 i.ranges c.absorb-window.new.ranges i.windows.items c.absorb-window.new.windows.items c.self.invariant inside clear few (rw c.in-Some.is at a.left) (rw c.in-Some.is at a.part) a.rest a.value in
    let small = rw c.last-last.ensures.is at c.last-last.ensures.small in
    rw c.hi.ensures (omega (arith, j.inside.last))

pub replace-requires-clause-held : goal.replace-requires-clause-held
replace-requires-clause-held c = rw c.lo-2.ensures (but_held c.in-Some.kept _ _ _ (rw c.in-Some.is at c.absorb-window.ensures.left))

pub replace-requires-clause-free : goal.replace-requires-clause-free
replace-requires-clause-free c =
    let i = c.self.inside in
    let a = c.absorb-window.ensures in
    let inside : IsInside i.bounds c.args.asked = rw (← c.self.view_is) at c.requires.inside in
    let clear : list_any (meets c.args.asked) (inserted_of i.ranges) ≡ false = rw (← c.self.view_is) at c.requires.clear in
    let few : length (clear_of c.args.asked i.windows.items) < 64 = rw (← c.self.view_is) at c.requires.few in
    let j = joined i.bounds c.args.asked c.in-Some.kept c.absorb-window.result.0 i.ranges c.absorb-window.new.ranges i.windows.items c.absorb-window.new.windows.items c.self.invariant inside clear few (rw c.in-Some.is at a.left) (rw c.in-Some.is at a.part) a.rest a.value in
    let own : c.new-span.result ≡ span_of c.absorb-window.result.0 true = rw (c.lo.ensures, c.hi.ensures) at c.new-span.ensures in
    rw (own, c.lo-2.ensures) j.free

pub replace-requires-clause-rising : goal.replace-requires-clause-rising
replace-requires-clause-rising c =
    let i = c.self.inside in
    let within = within_lower 1 i.bounds.start (i.bounds.last + 1) i.ranges c.self.invariant.bounds.bounds.above_zero c.self.invariant.within in
    rises_but c.in-Some.kept _ _ _ (i.bounds.last + 1) (rw c.in-Some.is at c.absorb-window.ensures.left) within

pub invariant_of-self : goal.invariant_of-self
invariant_of-self c =
    let i = c.self.inside in
    let a = c.absorb-window.ensures in
    let inside : IsInside i.bounds c.args.asked = rw (← c.self.view_is) at c.requires.inside in
    let clear : list_any (meets c.args.asked) (inserted_of i.ranges) ≡ false = rw (← c.self.view_is) at c.requires.clear in
    let few : length (clear_of c.args.asked i.windows.items) < 64 = rw (← c.self.view_is) at c.requires.few in
    let j = joined i.bounds c.args.asked c.in-Some.kept c.absorb-window.result.0 i.ranges c.absorb-window.new.ranges i.windows.items c.absorb-window.new.windows.items c.self.invariant inside clear few (rw c.in-Some.is at a.left) (rw c.in-Some.is at a.part) a.rest a.value in
    let own : c.new-span.result ≡ span_of c.absorb-window.result.0 true = rw (c.lo.ensures, c.hi.ensures) at c.new-span.ensures in
    rw (c.replace.ensures, own, c.lo-2.ensures, c.insert_window.ensures, a.value, a.rest) (rw a.value at j.whole)

pub returns-clause-windows : goal.returns-clause-windows
returns-clause-windows c =
    let i = c.self.inside in
    let a = c.absorb-window.ensures in
    let inside : IsInside i.bounds c.args.asked = rw (← c.self.view_is) at c.requires.inside in
    let clear : list_any (meets c.args.asked) (inserted_of i.ranges) ≡ false = rw (← c.self.view_is) at c.requires.clear in
    let few : length (clear_of c.args.asked i.windows.items) < 64 = rw (← c.self.view_is) at c.requires.few in
    let j = joined i.bounds c.args.asked c.in-Some.kept c.absorb-window.result.0 i.ranges c.absorb-window.new.ranges i.windows.items c.absorb-window.new.windows.items c.self.invariant inside clear few (rw c.in-Some.is at a.left) (rw c.in-Some.is at a.part) a.rest a.value in
    let own : c.new-span.result ≡ span_of c.absorb-window.result.0 true = rw (c.lo.ensures, c.hi.ensures) at c.new-span.ensures in
    rw (← c.self.view_is) (rw (c.replace.ensures, own, c.lo-2.ensures, j.inserted, c.insert_window.ensures, a.value, a.rest) refl)
