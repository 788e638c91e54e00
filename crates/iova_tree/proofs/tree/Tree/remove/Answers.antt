use Rattle.std.proofs.Common.{refl}
use Rattle.std.specs.Prelude.{find, IsSome}
use Rattle.iova_model.specs.Clients.{begins_at}
use Rattle.iova_tree.specs.Spans.{inserted_of}
use Rattle.iova_tree.proofs.Kept.{rises_from_zero, inserted_held, taken_out}
use Rattle.iova_tree.proofs.Allocated.{kept_space}
use Rattle.iova_tree.proofs.tree.Tree.remove.Goals as goal

pub remove-requires-clause-held : goal.remove-requires-clause-held
remove-requires-clause-held c =
    let found : IsSome (find (begins_at c.args.lo) (inserted_of c.self.inside.ranges)) = rw (← c.self.view_is) at c.requires in
    inserted_held c.args.lo _ found

pub remove-requires-clause-rising : goal.remove-requires-clause-rising
remove-requires-clause-rising c = rises_from_zero c.self.inside.bounds c.self.inside.ranges c.self.invariant.within

pub range-requires : goal.range-requires
range-requires c =
    let found : IsSome (find (begins_at c.args.lo) (inserted_of c.self.inside.ranges)) = rw (← c.self.view_is) at c.requires in
    let t = taken_out c.self.inside.bounds c.args.lo c.remove.result c.self.inside.ranges c.remove.new.self c.self.inside.windows.items c.self.invariant c.remove.ensures.taken c.remove.ensures.begins found in
    t.some

pub invariant_of-self : goal.invariant_of-self
invariant_of-self c =
    let found : IsSome (find (begins_at c.args.lo) (inserted_of c.self.inside.ranges)) = rw (← c.self.view_is) at c.requires in
    (taken_out c.self.inside.bounds c.args.lo c.remove.result c.self.inside.ranges c.remove.new.self c.self.inside.windows.items c.self.invariant c.remove.ensures.taken c.remove.ensures.begins found).kept

pub returns-clause-value : goal.returns-clause-value
returns-clause-value c =
    let found : IsSome (find (begins_at c.args.lo) (inserted_of c.self.inside.ranges)) = rw (← c.self.view_is) at c.requires in
    let t = taken_out c.self.inside.bounds c.args.lo c.remove.result c.self.inside.ranges c.remove.new.self c.self.inside.windows.items c.self.invariant c.remove.ensures.taken c.remove.ensures.begins found in
    rw (← c.self.view_is, c.range.ensures) t.found

pub returns-clause-rest : goal.returns-clause-rest
returns-clause-rest c =
    let found : IsSome (find (begins_at c.args.lo) (inserted_of c.self.inside.ranges)) = rw (← c.self.view_is) at c.requires in
    let t = taken_out c.self.inside.bounds c.args.lo c.remove.result c.self.inside.ranges c.remove.new.self c.self.inside.windows.items c.self.invariant c.remove.ensures.taken c.remove.ensures.begins found in
    let e = t.without in rw (← c.self.view_is) (rw e refl)

pub returns-clause-space : goal.returns-clause-space
returns-clause-space c = kept_space _ _ _ (invariant_of-self c)
