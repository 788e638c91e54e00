use Rattle.std.proofs.Common.{◌∙◌, sym, arith}
use Rattle.iova_tree.proofs.Blocks.{stands_at}
use Rattle.iova_tree.proofs.block.place_held.Goals as goal

pub returns-then-lo : goal.returns-then-lo
returns-then-lo c =
    stands_at c.args.lo c.args.spans.now _ c.index-spans-hint.result c.requires.rising c.requires.held (omega (arith, c.if-hint-gt0.true, c.if-hint-spans.true)) c.index-spans-hint.is (sym c.lo.ensures ∙ c.if-lo.true)
