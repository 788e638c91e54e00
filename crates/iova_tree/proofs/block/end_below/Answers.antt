use Rattle.std.proofs.Common.{◌∙◌, sym, refl, arith}
use Rattle.iova_tree.proofs.Blocks.{end_after-before}
use Rattle.iova_tree.proofs.block.end_below.Goals as goal

pub returns-then-at-eq0 : goal.returns-then-at-eq0
returns-then-at-eq0 c = rw c.if-at-eq0.true refl

pub returns : goal.returns
returns c = c.end.ensures ∙ sym (end_after-before c.args.from c.args.spans.now c.args.at c.index-spans-at.result (omega (arith, c.if-at-eq0.false)) c.requires.within c.index-spans-at.is)
