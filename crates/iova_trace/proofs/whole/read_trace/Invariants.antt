use Rattle.std.proofs.Common.{◌≡◌, ◌++◌, length}
use Rattle.iova_line.specs.Traces.{IsTrace, trace_text}
use Rattle.iova_trace.proofs.Readings.{trace_of, IsOnly}
use Rattle.iova_trace.proofs.whole.read_trace.Given as goal

-- the steps so far stand in the text before the rest, and each reading of it goes on from there
abbrev pub invariant-loop-rest : goal.invariant-loop-rest
invariant-loop-rest l = record {
  good : IsTrace (trace_of l.header.bounds l.header.workers l.steps.items);
  whole : l.text ≡ trace_text (trace_of l.header.bounds l.header.workers l.steps.items) ++ l.rest;
  only : IsOnly l.text l.header.bounds l.header.workers l.steps.items l.rest;
}

-- the bytes that are left
abbrev pub decreases-loop-rest : goal.decreases-loop-rest
decreases-loop-rest l = length l.rest
