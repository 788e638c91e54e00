use Rattle.std.proofs.Common.{◌∙◌, sym, ap₂, ◌++◌, take-append-drop}
use Rattle.iova_control.proofs.Reports.{unnamed_short, unnamed_front}
use Rattle.iova_control.proofs.metrics.behind_name.Goals as goal

pub returns-then-line-name : goal.returns-then-line-name
returns-then-line-name c = unnamed_short _ _ c.if-line-name.true

pub returns-else-are_same : goal.returns-else-are_same
returns-else-are_same c =
    unnamed_front _ _ _ _ (sym (ap₂ (λ front back. front ++ back) c.split_at.ensures.front c.split_at.ensures.back ∙ take-append-drop _ _))
    c.split_at.ensures.front_len (c.are_same.ensures.other c.if-are_same.false)
