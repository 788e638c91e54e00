use Rattle.std.proofs.Common.{◌++◌, ap, codes}
use Rattle.iova_control.proofs.Behind.{then_ok, is_put_ok}
use Rattle.iova_control.proofs.metrics.put_sink.Goals as goal

pub returns : goal.returns
returns c =
    then_ok _ _ _ _ _ _ c.in_ok-put_kind.ensures
    (is_put_ok _ _ _ _ _ c.writeln.ensures.bytes (ap (λ k. codes "iovad_sink{kind=\"" ++ (k ++ codes "\"} 1\n")) c.sink_kind-kind.ensures))
