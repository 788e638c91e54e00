use Rattle.std.proofs.Common.{◌∙◌, ℕ, List, ◌++◌, sym, ap, arith, append-nil}
use Rattle.iova_text.specs.Lines.{whole_line}
use Rattle.iova_line.specs.Text.{header_text}
use Rattle.iova_line.specs.Traces.{step_line}
use Rattle.iova_trace.proofs.LineSteps.{IsTrace-more, trace_text-more}
use Rattle.iova_trace.proofs.Readings.{trace_of}
use Rattle.iova_trace.proofs.whole.written_lines_are_a_trace.Goals as goal

pub returns-clause-header : goal.returns-clause-header
returns-clause-header c = λ bounds workers good.
    record {
      good = record { header = good; steps = tt; few = omega arith };
      whole = sym (append-nil (whole_line (header_text bounds workers)));
    }

pub returns-clause-step : goal.returns-clause-step
returns-clause-step c = λ text bounds workers steps step is lt fits.
    let t = trace_of bounds workers steps in
    record {
      good = IsTrace-more t step is.good fits lt;
      whole = ap (λ (x : List ℕ). x ++ step_line step) is.whole ∙ sym (trace_text-more t step);
    }
