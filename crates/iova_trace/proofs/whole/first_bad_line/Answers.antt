use Rattle.iova_trace.proofs.FirstBad.{unique_number, refused_none, stops_refused}
use Rattle.iova_trace.proofs.whole.first_bad_line.Goals as goal

pub returns-clause-unique_number : goal.returns-clause-unique_number
returns-clause-unique_number c = λ text n m a b. unique_number text n m a b

pub returns-clause-no_trace : goal.returns-clause-no_trace
returns-clause-no_trace c = λ text n trace a is whole. refused_none text n trace a is whole

pub returns-clause-stops : goal.returns-clause-stops
returns-clause-stops c = λ taken written more n s. stops_refused taken written more n s
