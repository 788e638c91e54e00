use Rattle.std.proofs.Common.{◌≡◌, ◌+◌, ◌<◌, ◌++◌, true, length, refl}
use Rattle.iova_model.specs.Fit.{is_clear}
use Rattle.iova_tree.specs.Spans.{inserted_of, span_of}
use Rattle.iova_tree.specs.Space.{IsInside}
use Rattle.iova_tree.proofs.Allocated.{kept_space}
use Rattle.iova_tree.proofs.Kept.{with_rises, rises_from_zero, kept_window, inserted_beside, clear_windows}
use Rattle.iova_tree.proofs.tree.Tree.add_window.Goals as goal

pub insert_window-requires-clause-rise : goal.insert_window-requires-clause-rise
insert_window-requires-clause-rise c =
    let i = c.self.inside in
    (i.bounds.start, i.bounds.last + 1, rw c.in-Ok.ensures.items (kept_space i.bounds i.ranges i.windows.items c.self.invariant).windows)

pub insert_window-requires-clause-clear : goal.insert_window-requires-clause-clear
insert_window-requires-clause-clear c =
    let i = c.self.inside in
    let free : is_clear c.args.window (i.windows.items ++ inserted_of i.ranges) ≡ true = rw (← c.self.view_is) at c.requires.free in
    rw c.in-Ok.ensures.items (clear_windows i.windows.items (inserted_of i.ranges) c.args.window free)

pub insert-requires : goal.insert-requires
insert-requires c =
    let i = c.self.inside in
    let free : is_clear c.args.window (i.windows.items ++ inserted_of i.ranges) ≡ true = rw (← c.self.view_is) at c.requires.free in
    let inside : IsInside i.bounds c.args.window = rw (← c.self.view_is) at c.requires.inside in
    let own : c.new-span.result ≡ span_of c.args.window true = rw (c.lo.ensures, c.hi.ensures) at c.new-span.ensures in
    record { free = rw own (rises_from_zero i.bounds _ (with_rises i.bounds i.ranges i.windows.items c.args.window true c.self.invariant inside free)) }

pub invariant_of-self-2 : goal.invariant_of-self-2
invariant_of-self-2 c =
    let i = c.self.inside in
    let free : is_clear c.args.window (i.windows.items ++ inserted_of i.ranges) ≡ true = rw (← c.self.view_is) at c.requires.free in
    let inside : IsInside i.bounds c.args.window = rw (← c.self.view_is) at c.requires.inside in
    let few : length i.windows.items < 64 = rw (← c.self.view_is) at c.requires.few in
    let own : c.new-span.result ≡ span_of c.args.window true = rw (c.lo.ensures, c.hi.ensures) at c.new-span.ensures in
    rw (c.in-Ok-insert.ensures.ok, own, c.insert_window.ensures, c.in-Ok.ensures.items) (kept_window i.bounds i.ranges i.windows.items c.args.window c.self.invariant inside free few)

pub returns-clause-ok : goal.returns-clause-ok
returns-clause-ok c =
    let i = c.self.inside in
    let own : c.new-span.result ≡ span_of c.args.window true = rw (c.lo.ensures, c.hi.ensures) at c.new-span.ensures in
    let e = inserted_beside i.ranges c.args.window in
    rw (← c.self.view_is) (rw (c.in-Ok-insert.ensures.ok, own, e, c.insert_window.ensures, c.in-Ok.ensures.items) refl)
