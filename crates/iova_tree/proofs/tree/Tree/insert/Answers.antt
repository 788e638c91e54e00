use Rattle.std.proofs.Common.{◌≡◌, ◌++◌, true, false, refl}
use Rattle.iova_model.specs.Fit.{is_clear}
use Rattle.iova_tree.specs.Spans.{inserted_of, span_of}
use Rattle.iova_tree.specs.Space.{IsInside}
use Rattle.iova_tree.proofs.Kept.{with_rises, rises_from_zero, kept_insert, inserted_with}
use Rattle.iova_tree.proofs.Allocated.{kept_space}
use Rattle.iova_tree.proofs.tree.Tree.insert.Goals as goal

pub insert-requires : goal.insert-requires
insert-requires c =
    let i = c.self.inside in
    let free : is_clear c.args.range (i.windows.items ++ inserted_of i.ranges) ≡ true = rw (← c.self.view_is) at c.requires.free in
    let inside : IsInside i.bounds c.args.range = rw (← c.self.view_is) at c.requires.inside in
    let own : c.new-span.result ≡ span_of c.args.range false = rw (c.lo.ensures, c.hi.ensures) at c.new-span.ensures in
    record { free = rw own (rises_from_zero i.bounds _ (with_rises _ _ _ c.args.range false c.self.invariant inside free)) }

pub invariant_of-self-2 : goal.invariant_of-self-2
invariant_of-self-2 c =
    let i = c.self.inside in
    let free : is_clear c.args.range (i.windows.items ++ inserted_of i.ranges) ≡ true = rw (← c.self.view_is) at c.requires.free in
    let inside : IsInside i.bounds c.args.range = rw (← c.self.view_is) at c.requires.inside in
    let own : c.new-span.result ≡ span_of c.args.range false = rw (c.lo.ensures, c.hi.ensures) at c.new-span.ensures in
    rw (c.in-Ok.ensures.ok, own) (kept_insert _ _ _ c.args.range c.self.invariant inside free)

pub invariant_of-self : goal.invariant_of-self
invariant_of-self c = rw c.in_default.ensures.err c.self.invariant

pub returns-clause-ok : goal.returns-clause-ok
returns-clause-ok c =
    let own : c.new-span.result ≡ span_of c.args.range false = rw (c.lo.ensures, c.hi.ensures) at c.new-span.ensures in
    let e = inserted_with _ _ _ c.args.range c.self.invariant in
    rw (← c.self.view_is) (rw (c.in-Ok.ensures.ok, own, e) refl)

pub returns-in_default-clause-space : goal.returns-in_default-clause-space
returns-in_default-clause-space c = kept_space _ _ _ (invariant_of-self c)

pub returns-clause-space : goal.returns-clause-space
returns-clause-space c = kept_space _ _ _ (invariant_of-self-2 c)
