use Rattle.std.proofs.Common.{List, map, length}
use Rattle.iova_range.specs.Frames.{Frames}
use Rattle.iova_command.specs.Spans.{InsertsSpans}
use Rattle.iova_command.proofs.plan.insert_spans.Given as goal

-- inserting the windows that are left from here has the result of inserting all of them
abbrev pub invariant-loop-rest : goal.invariant-loop-rest
invariant-loop-rest l =
    (final : List Frames) → InsertsSpans l.start l.last (map (λ t. t.now) l.rest) l.windows final
    → InsertsSpans l.start l.last (map (λ t. t.now) l.texts) l.initial.windows final

abbrev pub decreases-loop-rest : goal.decreases-loop-rest
decreases-loop-rest l = length l.rest
