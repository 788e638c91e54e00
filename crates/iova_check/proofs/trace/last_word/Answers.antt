use Rattle.iova_check.proofs.TraceWords.{cut_at_blank, no_blank}
use Rattle.iova_check.proofs.trace.last_word.Goals as goal

pub returns-in-Some-clause-some : goal.returns-in-Some-clause-some
returns-in-Some-clause-some c =
    let last = c.in-Some.ensures.0 in
    cut_at_blank c.args.line.now c.in-Some.blank last.high c.in-Some.ensures.1 last.after

pub returns-in-None-clause-none : goal.returns-in-None-clause-none
returns-in-None-clause-none c = no_blank c.args.line.now c.in-None.ensures
