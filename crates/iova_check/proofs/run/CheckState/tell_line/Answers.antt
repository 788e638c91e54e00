use Rattle.std.proofs.Common.{take}
use Rattle.std.proofs.lemmas.Result.{err_from_is_err_and}
use Rattle.iova_text.specs.Lines.{whole_line}
use Rattle.iova_check.proofs.Streams.{TakesBytes-broken}
use Rattle.iova_check.proofs.run.CheckState.tell_line.Goals as goal

pub returns-in_err-write_findings : goal.returns-in_err-write_findings
returns-in_err-write_findings g c =
    let p = err_from_is_err_and c.from_residual.result c.from_residual.ensures.1 in
    let cut = c.in_err-write_findings.ensures.err in
    let ended = c.complete_line-ended in
    rw (p.1, p.2, cut.0) (
      take cut.1.0 ended.new.self.findings.items,
      cut.1.1,
      TakesBytes-broken c.args.source.now c.args.self.now ended.new.self (whole_line c.args.end.now) cut.1.0 ended.result ended.ensures,
    )
