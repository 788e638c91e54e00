use Rattle.std.proofs.Common.{◌-◌, false, sym, ◌∙◌, rules}
use Rattle.std.proofs.lemmas.List.Folds.{list_any-append}
use Rattle.iova_range.specs.Frames.{Frames, meets}
use Rattle.iova_tree.specs.Spans.{inserted_of}
use Rattle.iova_tree.specs.Branches.{spans_below}
use Rattle.iova_tree.proofs.Spans.{rising-front, rising-after}
use Rattle.iova_tree.proofs.Allocated.{of_kind-append}
use Rattle.iova_tree.proofs.Branches.{behind_alone}
use Rattle.iova_tree.proofs.branch.+meets_any.Goals as goal

pub meets_below-requires-clause-rising : goal.meets_below-requires-clause-rising
meets_below-requires-clause-rising g t c = rising-front 0 _ _ (rw c.in-Some.ensures.cases.0 at c.requires.rising)

pub meets_any-requires : goal.meets_any-requires
meets_any-requires g t c =
    let linked = rw c.in-Some.ensures.cases.0 at c.requires.linked in
    let rising = rw c.in-Some.ensures.cases.0 at c.requires.rising in
    (λ κs sub. (search rules, (search rules, (c.requires.some, (behind_alone g.N.Node.spans c.in-Some.link.now.end c.in-Some.rest.now linked.1, rising-after 0 _ _ rising)))))

pub returns-then-meets_below : goal.returns-then-meets_below
returns-then-meets_below g t c =
    let a : Frames = record { lo = c.args.lo; len = c.args.end - c.args.lo } in
    let own = sym c.meets_below.ensures ∙ c.if-meets_below.true in
    rw (c.in-Some.ensures.cases.0, of_kind-append false (g.N.Node.spans c.in-Some.link.now.node) (spans_below g.N.Node.spans c.in-Some.rest.now), list_any-append (meets a) (inserted_of (g.N.Node.spans c.in-Some.link.now.node)) (inserted_of (spans_below g.N.Node.spans c.in-Some.rest.now)), own) c.if-meets_below.true

pub returns-else-meets_below : goal.returns-else-meets_below
returns-else-meets_below g t c =
    let a : Frames = record { lo = c.args.lo; len = c.args.end - c.args.lo } in
    let own = sym c.meets_below.ensures ∙ c.if-meets_below.false in
    rw (c.in-Some.ensures.cases.0, of_kind-append false (g.N.Node.spans c.in-Some.link.now.node) (spans_below g.N.Node.spans c.in-Some.rest.now), list_any-append (meets a) (inserted_of (g.N.Node.spans c.in-Some.link.now.node)) (inserted_of (spans_below g.N.Node.spans c.in-Some.rest.now)), own) c.meets_any.ensures
