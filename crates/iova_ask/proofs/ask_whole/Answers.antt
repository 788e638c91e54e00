use Rattle.std.proofs.Common.{rules, ℕ, ◌≤◌, ◌<◌, ◌+◌, ◌++◌, List, length, take, refl, subst, ap, arith, length-drop, length-append}
use Rattle.std.specs.Io.KnownBytes.{Appends}
use Rattle.iova_ask.specs.LineRuns.{IsRunOfLines}
use Rattle.iova_ask.proofs.Copying.{breaks_after, copied_more, copied_none}
use Rattle.iova_ask.proofs.SentParts.{asks_broken, none_asked, more_begin}
use Rattle.iova_ask.proofs.Lined.{all_append, lines_of_run, more_bye, more_open, more_sent, run_count, run_none, run_text, run_within, some_sent, stuck_long, stuck_short}
use Rattle.iova_ask.specs.Asking.{EndByBye, AreOpen, IsLine}
use Rattle.std.specs.Prelude.{MatchBool, Bool}
use Rattle.iova_range.specs.declared.limits.TheConstants.{MAX_LINE}
use Rattle.iova_ask.proofs.ask_whole.Goals as goal

pub asking-init : goal.asking-init
asking-init g c = record {
  copied = copied_none c.args.sent.now (g.L.Link.left c.args.link.now) (g.W.Write.contents c.args.writer.now) c.args.answers.now;
  asked = none_asked c.args.input.now (g.L.Link.sent c.args.link.now) c.args.sent.now;
  bound = omega arith;
}

pub returns-then-as_slice-ge-MAX_LINE-clause-asked : goal.returns-then-as_slice-ge-MAX_LINE-clause-asked
returns-then-as_slice-ge-MAX_LINE-clause-asked g c =
    let run = subst (λ (x : List ℕ). IsRunOfLines x c.run_in_front-run.result) c.as_slice.ensures c.run_in_front-run.ensures in
    let long : MAX_LINE ≤ length c.asking.input = search rules in
    let a = c.asking.invariant.asked in
    (a.0, c.asking.input, a.1, stuck_long c.asking.input (run_none c.asking.input c.run_in_front-run.result run c.if-run-eq0.true) long, a.2)

pub returns-then-run-eq0-clause-asked : goal.returns-then-run-eq0-clause-asked
returns-then-run-eq0-clause-asked g c =
    let run = subst (λ (x : List ℕ). IsRunOfLines x c.run_in_front-run.result) c.as_slice.ensures c.run_in_front-run.ensures in
    let short : length c.asking.input < MAX_LINE = search rules in
    let a = c.asking.invariant.asked in
    (a.0, a.1, stuck_short c.asking.input (run_none c.asking.input c.run_in_front-run.result run c.if-run-eq0.true) short, a.2, a.3)

pub returns-in-Err-clause-asked : goal.returns-in-Err-clause-asked
returns-in-Err-clause-asked g c =
    let run = subst (λ (x : List ℕ). IsRunOfLines x c.run_in_front-run.result) c.as_slice.ensures c.run_in_front-run.ensures in
    let a = c.asking.invariant.asked in
    let some = c.in-Err.ensures.err.1 in
    let sent : Appends (g.L.Link.sent c.asking.link) (g.L.Link.sent c.ask_some.new.link) (take some.0 (take c.run_in_front-run.result.len c.asking.input)) = search rules in
    let of_lines = subst (λ (t : List ℕ). Appends (g.L.Link.sent c.asking.link) (g.L.Link.sent c.ask_some.new.link) (take some.0 t))
    (run_text c.asking.input c.run_in_front-run.result run) sent in
    asks_broken c.args.input.now c.asking.input c.args.sent.now c.asking.sent (g.L.Link.sent c.args.link.now) (g.L.Link.sent c.ask_some.new.link) c.in-Err.fault
    c.in-Err.ensures.err.0 (a.0 ++ run.lines) (all_append IsLine a.0 run.lines a.1.good.lines (lines_of_run c.run_in_front-run.result.is_last run.lines run.byes))
    (more_begin c.args.input.now c.asking.input a.0 run.lines a.1.whole (record { rest = run.rest; whole = run.whole })) _
    (some_sent (g.L.Link.sent c.args.link.now) (g.L.Link.sent c.asking.link) (g.L.Link.sent c.ask_some.new.link) a.0 run.lines some.0 a.2 of_lines)

pub returns-in-Err-clause-copied : goal.returns-in-Err-clause-copied
returns-in-Err-clause-copied g c =
    breaks_after c.asking.invariant.copied.0 _ _ _ _ _ _ _ _ c.asking.invariant.copied.2 c.in-Err.ensures.copied

pub returns-then-run-clause-asked : goal.returns-then-run-clause-asked
returns-then-run-clause-asked g c =
    let run = subst (λ (x : List ℕ). IsRunOfLines x c.run_in_front-run.result) c.as_slice.ensures c.run_in_front-run.ensures in
    let a = c.asking.invariant.asked in
    let sent : Appends (g.L.Link.sent c.asking.link) (g.L.Link.sent c.ask_some.new.link) (take c.run_in_front-run.result.len c.asking.input) = search rules in
    let of_lines = subst (Appends (g.L.Link.sent c.asking.link) (g.L.Link.sent c.ask_some.new.link)) (run_text c.asking.input c.run_in_front-run.result run) sent in
    let bye = subst (λ (b : Bool). MatchBool b (EndByBye run.lines) (AreOpen run.lines)) c.if-run.true run.byes in (
      a.0 ++ run.lines,
      more_bye a.0 run.lines a.1.good bye,
      more_begin c.args.input.now c.asking.input a.0 run.lines a.1.whole (record { rest = run.rest; whole = run.whole }),
      more_sent (g.L.Link.sent c.args.link.now) (g.L.Link.sent c.asking.link) (g.L.Link.sent c.ask_some.new.link) a.0 run.lines a.2 of_lines,
      omega (arith, a.3, run.count, length-append a.0 run.lines),
    )

pub returns-then-run-clause-copied : goal.returns-then-run-clause-copied
returns-then-run-clause-copied g c =
    copied_more c.args.sent.now c.asking.sent (c.asking.sent + c.run_in_front-run.result.lines) _ _ _ _ _ _ _ _ _ c.asking.invariant.copied
    (c.run_in_front-run.result.lines, refl, c.in-Ok.ensures.copied)

pub returns-then-run-clause-bound : goal.returns-then-run-clause-bound
returns-then-run-clause-bound g c =
    let run = subst (λ (x : List ℕ). IsRunOfLines x c.run_in_front-run.result) c.as_slice.ensures c.run_in_front-run.ensures in
    omega (arith, c.asking.invariant.bound, run_count c.asking.input c.run_in_front-run.result run, run_within c.asking.input c.run_in_front-run.result run, ap length c.pass.ensures, length-drop c.run_in_front-run.result.len c.asking.input)

pub asking-smaller : goal.asking-smaller
asking-smaller g c =
    let run = subst (λ (x : List ℕ). IsRunOfLines x c.run_in_front-run.result) c.as_slice.ensures c.run_in_front-run.ensures in
    omega (arith, c.if-run-eq0.false, run_count c.asking.input c.run_in_front-run.result run, run_within c.asking.input c.run_in_front-run.result run, ap length c.pass.ensures, length-drop c.run_in_front-run.result.len c.asking.input)

pub asking-preserved : goal.asking-preserved
asking-preserved g c =
    let run = subst (λ (x : List ℕ). IsRunOfLines x c.run_in_front-run.result) c.as_slice.ensures c.run_in_front-run.ensures in
    let a = c.asking.invariant.asked in
    let sent : Appends (g.L.Link.sent c.asking.link) (g.L.Link.sent c.ask_some.new.link) (take c.run_in_front-run.result.len c.asking.input) = search rules in
    let of_lines = subst (Appends (g.L.Link.sent c.asking.link) (g.L.Link.sent c.ask_some.new.link)) (run_text c.asking.input c.run_in_front-run.result run) sent in
    let lines = more_open c.args.input.now c.asking.input c.run_in_front-run.result a.0 a.1 run c.if-run.false in
    record {
      copied = copied_more c.args.sent.now c.asking.sent (c.asking.sent + c.run_in_front-run.result.lines) _ _ _ _ _ _ _ _ _ c.asking.invariant.copied
          (c.run_in_front-run.result.lines, refl, c.in-Ok.ensures.copied);
      asked = (
        a.0 ++ run.lines,
        rw c.pass.ensures lines,
        more_sent (g.L.Link.sent c.args.link.now) (g.L.Link.sent c.asking.link) (g.L.Link.sent c.ask_some.new.link) a.0 run.lines a.2 of_lines,
        omega (arith, a.3, run.count, length-append a.0 run.lines),
      );
      bound = omega (arith, c.asking.invariant.bound, run_count c.asking.input c.run_in_front-run.result run, run_within c.asking.input c.run_in_front-run.result run, ap length c.pass.ensures, length-drop c.run_in_front-run.result.len c.asking.input);
    }
