use Rattle.std.proofs.Common.{◌≡◌, ◌-◌, ◌<◌, ◌≤◌, ◌∙◌, length, min, ℕ, Option, Some, None, sym, refl, arith}
use Rattle.std.specs.Prelude.{IfSome, insert}
use Rattle.iova_tree.specs.Spans.{with_span}
use Rattle.iova_tree.specs.Fit.{place, taken}
use Rattle.iova_tree.proofs.Blocks.{apart_at, some_end}
use Rattle.iova_tree.proofs.Found.{goes_in, goes_first}
use Rattle.iova_tree.proofs.Hinted.{highest_above, highest_step, highest_first, room_step}
use Rattle.iova_tree.proofs.block.highest_of.Goals as goal

pub loop-at-init : goal.loop-at-init
loop-at-init c = (
  c.requires.within,
  highest_above c.args.wanted.now c.args.from c.args.hint.at c.args.spans.now c.requires.wanted c.requires.within (omega (arith, c.requires.hinted, c.requires.less)),
  c.requires.hinted,
)

pub place_between-requires-clause-apart : goal.place_between-requires-clause-apart
place_between-requires-clause-apart c =
    rw (c.end-end.ensures, c.lo-lo.ensures) (apart_at c.args.from c.args.spans.now c.loop-at.at c.index-spans-at-in-loop-at.result c.index-spans-at.result c.requires.rising (omega (arith, c.loop-at-test.true)) c.loop-at.invariant.0 c.index-spans-at-in-loop-at.is c.index-spans-at.is)

pub returns-in-Some-clause-found : goal.returns-in-Some-clause-found
returns-in-Some-clause-found c =
    let n = highest_step c.args.wanted.now c.args.from c.loop-at.at c.args.spans.now c.index-spans-at-in-loop-at.result c.index-spans-at.result (omega (arith, c.loop-at-test.true)) c.loop-at.invariant.0 c.index-spans-at-in-loop-at.is c.index-spans-at.is in
    sym c.loop-at.invariant.1 ∙ n ∙ rw (← c.end-end.ensures, ← c.lo-lo.ensures, ← c.place_between.ensures, c.in-Some.is) refl

pub returns-in-Some-clause-place : goal.returns-in-Some-clause-place
returns-in-Some-clause-place c =
    goes_in c.args.wanted.now c.args.from c.args.spans.now c.loop-at.at c.in-Some.place c.index-spans-at.result c.index-spans-at-in-loop-at.result c.requires.wanted c.requires.rising (omega (arith, c.loop-at-test.true)) c.loop-at.invariant.0 c.index-spans-at.is c.index-spans-at-in-loop-at.is
    (rw (← c.end-end.ensures, ← c.lo-lo.ensures) (sym c.place_between.ensures ∙ c.in-Some.is)) (returns-in-Some-clause-found c)

pub bound_with-above-requires-clause-some : goal.bound_with-above-requires-clause-some
bound_with-above-requires-clause-some c = rw c.end-end.ensures (some_end c.args.from c.args.spans.now (c.loop-at.at - 1) c.index-spans-at.result c.requires.rising (omega (arith, c.loop-at.invariant.0, c.loop-at-test.true)) c.index-spans-at.is)

pub bound_with-above-requires-clause-apart : goal.bound_with-above-requires-clause-apart
bound_with-above-requires-clause-apart c =
    rw (c.end-end.ensures, c.lo-lo.ensures) (apart_at c.args.from c.args.spans.now c.loop-at.at c.index-spans-at-in-loop-at.result c.index-spans-at.result c.requires.rising (omega (arith, c.loop-at-test.true)) c.loop-at.invariant.0 c.index-spans-at-in-loop-at.is c.index-spans-at.is)

pub loop-at-preserved : goal.loop-at-preserved
loop-at-preserved c =
    let some : 1 ≤ c.loop-at.at = omega (arith, c.loop-at-test.true) in
    let n = highest_step c.args.wanted.now c.args.from c.loop-at.at c.args.spans.now c.index-spans-at-in-loop-at.result c.index-spans-at.result some c.loop-at.invariant.0 c.index-spans-at-in-loop-at.is c.index-spans-at.is in
    let m = rw (← c.end-end.ensures, ← c.lo-lo.ensures, ← c.place_between.ensures, c.in_default.is) at n in
    let r = room_step c.loop-at.at c.args.spans.now c.index-spans-at-in-loop-at.result c.index-spans-at.result some c.loop-at.invariant.0 c.index-spans-at-in-loop-at.is c.index-spans-at.is in
    let e = rw (c.end-end.ensures, c.lo-lo.ensures) at c.bound_with-above.ensures in
    (omega (arith, c.loop-at.invariant.0), sym m ∙ c.loop-at.invariant.1, omega (arith, r, e, c.loop-at.invariant.2))

pub returns-clause-found : goal.returns-clause-found
returns-clause-found c =
    let none : c.loop-at.at ≡ 0 = omega (arith, c.loop-at-test.false) in
    let whole = rw none at c.loop-at.invariant.1 in
    let some = rw none at c.loop-at.invariant.0 in
    let first = highest_first c.args.wanted.now c.args.from c.args.spans.now c.index-spans-0.result some c.index-spans-0.is in
    sym whole ∙ first ∙ rw (← c.lo.ensures) (sym c.place_between-found.ensures)

pub returns-clause-place : goal.returns-clause-place
returns-clause-place c =
    let none : c.loop-at.at ≡ 0 = omega (arith, c.loop-at-test.false) in
    let some = rw none at c.loop-at.invariant.0 in
    go some c.place_between-found.result (c.place_between-found.ensures ∙ rw c.lo.ensures refl)
  where
    go : 0 < length c.args.spans.now → (o : Option ℕ) → o ≡ place c.args.from (min c.index-spans-0.result.lo c.args.wanted.now.cap) c.args.wanted.now
        → IfSome o (λ lo. insert c.args.spans.now 0 (taken c.args.wanted.now lo) ≡ with_span (taken c.args.wanted.now lo) c.args.spans.now)
    go some None is = tt
    go some (Some lo) is = goes_first c.args.wanted.now c.args.from c.args.spans.now lo c.index-spans-0.result c.requires.wanted some c.index-spans-0.is (sym is)
