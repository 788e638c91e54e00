use Rattle.std.proofs.Common.{ℕ, ◌≡◌, List, ◌++◌, take, sym, ap, ◌∙◌, subst, append_assoc}
use Rattle.std.proofs.lemmas.Result.{err_from_is_err_and}
use Rattle.std.proofs.KnownBytes.{Appends-trans}
use Rattle.iova_text.specs.Lines.{whole_line}
use Rattle.iova_check.specs.declared.fault.CheckFault.TheVariants.{WriteFault}
use Rattle.iova_check.specs.CheckState.{Stops, Outcome}
use Rattle.iova_check.proofs.Streams.{Goes-then, Stops-then, Stops-more, TakesBytes-broken, TakesBytes-written, Outcome-then}
use Rattle.iova_check.proofs.run.CheckState.check_piece.Goals as goal

pub loop-end-preserved : goal.loop-end-preserved
loop-end-preserved g c =
    let so_far = c.loop-end.invariant in
    let line = whole_line c.in-Some.end.now in
    let left = c.in-Some.behind.now in
    let cut = c.in-Some.ensures.cut in
    let answered = c.in_ok-tell_line.ensures in (
      so_far.0 ++ line,
      so_far.1 ++ answered.0,
      so_far.2 ∙ (ap (λ (x : List ℕ). so_far.0 ++ x) cut ∙ sym (append_assoc so_far.0 line left)),
      Appends-trans (g.W.Write.contents c.args.writer.now) (g.W.Write.contents c.loop-end.writer) (g.W.Write.contents c.tell_line.new.writer)
          so_far.1 answered.0 so_far.3 answered.1,
      Goes-then c.args.source.now c.args.self.now c.loop-end.self c.tell_line.new.self so_far.0 line so_far.1 answered.0 so_far.4 answered.2,
    )

pub returns-in_err-tell_line-clause-outcome : goal.returns-in_err-tell_line-clause-outcome
returns-in_err-tell_line-clause-outcome g c =
    let so_far = c.loop-end.invariant in
    let line = whole_line c.in-Some.end.now in
    let left = c.in-Some.behind.now in
    let cut = c.in-Some.ensures.cut in
    let answered = c.in_err-tell_line.ensures in
    let fault = c.in_err-tell_line.field-0.0 in
    let p = err_from_is_err_and c.from_residual.result c.from_residual.ensures.1 in
    let stops = Stops-then c.args.source.now c.args.self.now c.loop-end.self so_far.0 line so_far.1 answered.0 fault so_far.4 answered.2 in
    let more = Stops-more c.args.source.now c.args.self.now (so_far.0 ++ line) left (so_far.1 ++ answered.0) fault stops in
    let whole : (so_far.0 ++ line) ++ left ≡ c.args.piece.now =
    append_assoc so_far.0 line left ∙ (ap (λ (x : List ℕ). so_far.0 ++ x) (sym cut) ∙ sym so_far.2) in
    let P : List ℕ → Type 0 = λ x. Stops c.args.source.now c.args.self.now x (so_far.1 ++ answered.0) fault in
    rw (p.1, p.2) (
      so_far.1 ++ answered.0,
      Appends-trans (g.W.Write.contents c.args.writer.now) (g.W.Write.contents c.loop-end.writer) (g.W.Write.contents c.tell_line.new.writer)
          so_far.1 answered.0 so_far.3 answered.1,
      subst P whole more,
    )

pub returns-in_err-write_findings-clause-outcome : goal.returns-in_err-write_findings-clause-outcome
returns-in_err-write_findings-clause-outcome g c =
    let so_far = c.loop-end.invariant in
    let rest = c.loop-end.rest.now in
    let kept = c.keep_part-kept in
    let cut = c.in_err-write_findings.ensures.err in
    let written = take cut.1.0 kept.new.self.findings.items in
    let fault = c.in_err-write_findings.field-0.0 in
    let p = err_from_is_err_and c.from_residual-in_err-write_findings.result c.from_residual-in_err-write_findings.ensures.1 in
    let broken = TakesBytes-broken c.args.source.now c.loop-end.self kept.new.self rest cut.1.0 kept.result kept.ensures.takes in
    let stops = Stops-then c.args.source.now c.args.self.now c.loop-end.self so_far.0 rest so_far.1 written WriteFault so_far.4 broken in
    let P : List ℕ → Type 0 = λ x. Stops c.args.source.now c.args.self.now x (so_far.1 ++ written) WriteFault in
    rw (p.1, p.2, cut.0) (
      so_far.1 ++ written,
      Appends-trans (g.W.Write.contents c.args.writer.now) (g.W.Write.contents c.loop-end.writer) (g.W.Write.contents c.write_findings.new.writer)
          so_far.1 written so_far.3 cut.1.1,
      subst P (sym so_far.2) stops,
    )

pub returns-clause-outcome : goal.returns-clause-outcome
returns-clause-outcome g c =
    let so_far = c.loop-end.invariant in
    let rest = c.loop-end.rest.now in
    let kept = c.keep_part-kept in
    let written = kept.new.self.findings.items in
    let wrote = c.in_ok-write_findings.ensures in
    let last = TakesBytes-written c.args.source.now c.loop-end.self kept.new.self c.write_findings.new.self rest kept.result kept.ensures.takes wrote.same wrote.none in
    let whole = Outcome-then c.args.source.now c.args.self.now c.loop-end.self c.write_findings.new.self so_far.0 rest so_far.1 written kept.result so_far.4 last in
    let P : List ℕ → Type 0 = λ x. Outcome c.args.source.now c.args.self.now x (so_far.1 ++ written) c.write_findings.new.self kept.result in (
      so_far.1 ++ written,
      Appends-trans (g.W.Write.contents c.args.writer.now) (g.W.Write.contents c.loop-end.writer) (g.W.Write.contents c.write_findings.new.writer)
          so_far.1 written so_far.3 wrote.ok,
      subst P (sym so_far.2) whole,
    )
