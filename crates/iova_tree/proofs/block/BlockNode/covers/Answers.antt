use Rattle.std.proofs.Common.{◌≡◌, ◌∙◌}
use Rattle.iova_tree.proofs.Blocks.{covered_any}
use Rattle.iova_tree.proofs.block.BlockNode.covers.Goals as goal

pub returns : goal.returns
returns c =
    let is : c.deref.result.now ≡ c.args.self.now = c.deref.ensures.value ∙ c.self.view_is in
    let any = rw is at c.covers_any.ensures in
    any ∙ covered_any 0 c.args.frame c.args.self.now c.requires.rising
