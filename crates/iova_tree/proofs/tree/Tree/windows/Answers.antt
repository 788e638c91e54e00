use Rattle.iova_tree.proofs.Allocated.{kept_space}
use Rattle.iova_tree.proofs.tree.Tree.windows.Goals as goal

pub returns-clause-space : goal.returns-clause-space
returns-clause-space c = rw (← c.self.view_is) (kept_space _ _ _ c.self.invariant)
