use Rattle.std.proofs.Common.{ap, List, ℕ}
use Rattle.std.specs.Map.{lookup}
use Rattle.std.specs.BTreeMap.{get, is_at}
use Rattle.std.specs.Ordering.{nat_cmp}
use Rattle.iova_check.specs.declared.stage.Stage.{Stage}
use Rattle.iova_check.proofs.Marks.{none_shown}
use Rattle.iova_check.proofs.stages.Stages.new.Goals as goal

pub returns : goal.returns
returns c = λ f. none_shown (get nat_cmp c.new.result) f (λ q _. ap (λ (es : List (ℕ × Stage)). lookup (is_at (nat_cmp q)) es) c.new.ensures.empty)
