use Rattle.std.proofs.Common.{◌++◌, ap₂, codes}
use Rattle.iova_control.proofs.Behind.{then_ok, is_put_ok}
use Rattle.iova_control.proofs.metrics.put_build.Goals as goal

pub returns : goal.returns
returns c =
    then_ok _ _ _ _ _ _ c.in_ok-put_kind.ensures
    (is_put_ok _ _ _ _ _ c.writeln.ensures.bytes
    (ap₂ (λ v k. codes "iovad_build_info{version=\"" ++ (v ++ (codes "\",kit=\"" ++ (k ++ codes "\"} 1\n")))) c.lines_of.ensures.first c.lines_of.ensures.second))
