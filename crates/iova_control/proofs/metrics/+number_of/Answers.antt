use Rattle.iova_control.specs.Reports.{none}
use Rattle.iova_control.proofs.Reports.{number_in_first, number_later}
use Rattle.iova_control.proofs.metrics.+number_of.Goals as goal

pub returns-in_default : goal.returns-in_default
returns-in_default t c = none _ c.in_default.ensures

pub returns-in-Some-number_behind : goal.returns-in-Some-number_behind
returns-in-Some-number_behind t c =
    number_in_first _ _ _ _ _ _ _ c.in-Some.ensures c.as_bytes.ensures.value c.as_bytes-2.ensures.value c.in-Some-number_behind.ensures.spelled

pub returns-in-None : goal.returns-in-None
returns-in-None t c =
    number_later _ _ _ _ _ _ _ c.in-Some.ensures c.as_bytes.ensures.value c.as_bytes-2.ensures.value (c.number_behind.ensures.all c.in-None.is)
    c.number_of.ensures
