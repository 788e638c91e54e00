use Rattle.std.proofs.Common.{refl, ap, ◌∙◌, [], ◌∷◌}
use Rattle.std.proofs.lemmas.Result.{err_from_is_err_and}
use Rattle.iova_check.proofs.Streams.{Stops-more, TakesBytes-ended}
use Rattle.iova_check.proofs.run.CheckState.complete_line.Goals as goal

pub returns-in_err-keep_part : goal.returns-in_err-keep_part
returns-in_err-keep_part g c =
    let p = err_from_is_err_and c.from_residual.result c.from_residual.ensures.1 in
    let stops = c.in_err-keep_part.ensures.takes in
    rw (p.1, p.2) (Stops-more c.args.source.now c.args.self.now c.args.end.now (10 ∷ []) c.args.self.now.findings.items c.in_err-keep_part.field-0.0 stops.0, stops.1)

pub returns : goal.returns
returns g c =
    TakesBytes-ended c.args.source.now c.args.self.now c.keep_part.new.self _ c.run_line-2.new.self c.args.end.now c.as_slice.result.now c.run_line-2.result
    c.in_ok-keep_part.ensures.takes c.in_ok-keep_part.ensures.findings c.take-line.ensures.after refl refl
    (c.as_slice.ensures.value ∙ ap (λ l. l.items) c.take-line.ensures.value) c.run_line-2.ensures.takes c.run_line-2.ensures.findings
