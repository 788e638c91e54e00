use Rattle.iova_control.proofs.Behind.{then_ok}
use Rattle.iova_control.proofs.metrics.put_named.Goals as goal

pub returns : goal.returns
returns c = then_ok _ _ _ _ _ _ c.in_ok-put_kind.ensures c.writeln.ensures.bytes
