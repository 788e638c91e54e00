use Rattle.std.proofs.Common.{◌≡◌, ◌∙◌}
use Rattle.iova_tree.proofs.Blocks.{end_after-last}
use Rattle.iova_tree.proofs.block.BlockNode.end.Goals as goal

pub returns : goal.returns
returns c =
    let is : c.as_slice-spans.result.now ≡ c.args.self.now = c.as_slice-spans.ensures.value ∙ c.self.view_is in
    c.end.ensures ∙ (rw is at (end_after-last 0 c.as_slice-spans.result.now c.index-spans-spans.result (rw is c.requires.some) c.index-spans-spans.is))
