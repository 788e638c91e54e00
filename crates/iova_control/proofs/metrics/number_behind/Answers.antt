use Rattle.std.proofs.Common.{ap}
use Rattle.std.specs.Prelude.{is_some}
use Rattle.iova_control.proofs.Reports.{field_unnamed, field_unspaced, field_unread}
use Rattle.iova_control.proofs.metrics.number_behind.Goals as goal

pub returns-in_default-clause-all : goal.returns-in_default-clause-all
returns-in_default-clause-all c = λ is. field_unnamed _ _ c.in_default.ensures

pub returns-in_default-behind_space-clause-all : goal.returns-in_default-behind_space-clause-all
returns-in_default-behind_space-clause-all c = λ is. field_unspaced _ _ _ c.in-Some.ensures c.in_default-behind_space.ensures

pub returns-clause-all : goal.returns-clause-all
returns-clause-all c = λ is. field_unread _ _ _ _ _ c.in-Some.ensures c.in-Some-behind_space.ensures c.behind_spaces.ensures (c.number.ensures.all (ap is_some is))
