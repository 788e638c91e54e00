use Rattle.std.proofs.Common.{rules, ◌≡◌, arith}
use Rattle.iova_ask.specs.Asking.{bye}
use Rattle.iova_ask.proofs.Lined.{gathered_none, gathered_push, run_of, run_by_bye, stuck_without, stuck_at_long}
use Rattle.iova_ask.proofs.front.run_in_front.Goals as goal

pub loop-lines-init : goal.loop-lines-init
loop-lines-init c = (gathered_none c.args.bytes.now, omega arith)

pub returns-in_default : goal.returns-in_default
returns-in_default c =
    run_of c.args.bytes.now c.loop-lines.rest.now c.loop-lines.len c.loop-lines.lines c.loop-lines.invariant.0 c.loop-lines.invariant.1
    (λ none. stuck_without c.loop-lines.rest.now c.in_default.ensures.none)

pub returns-then-line-ge-MAX_LINE : goal.returns-then-line-ge-MAX_LINE
returns-then-line-ge-MAX_LINE c =
    run_of c.args.bytes.now c.loop-lines.rest.now c.loop-lines.len c.loop-lines.lines c.loop-lines.invariant.0 c.loop-lines.invariant.1
    (λ none. stuck_at_long c.loop-lines.rest.now c.in-Some.line.now c.in-Some.after.now c.in-Some.ensures.cut c.in-Some.ensures.one c.if-line-ge-MAX_LINE.true)

pub returns-then-eq : goal.returns-then-eq
returns-then-eq c =
    let is : c.in-Some.line.now ≡ bye = search rules in
    run_by_bye c.args.bytes.now c.loop-lines.rest.now c.in-Some.line.now c.in-Some.after.now c.loop-lines.len c.loop-lines.lines
    c.loop-lines.invariant.0 c.in-Some.ensures.cut is (omega arith)

pub loop-lines-preserved : goal.loop-lines-preserved
loop-lines-preserved c = (
  gathered_push c.args.bytes.now c.loop-lines.rest.now c.in-Some.line.now c.in-Some.after.now c.loop-lines.len c.loop-lines.lines
      c.loop-lines.invariant.0 c.in-Some.ensures.cut c.in-Some.ensures.one c.if-line-ge-MAX_LINE.false (λ is. search rules),
  omega arith,
)
