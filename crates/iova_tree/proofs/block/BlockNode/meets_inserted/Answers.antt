use Rattle.std.proofs.Common.{◌≡◌, ◌∙◌}
use Rattle.iova_tree.proofs.Blocks.{taken_any}
use Rattle.iova_tree.proofs.block.BlockNode.meets_inserted.Goals as goal

pub returns : goal.returns
returns c =
    let is : c.deref.result.now ≡ c.args.self.now = c.deref.ensures.value ∙ c.self.view_is in
    let any = rw is at c.meets_any.ensures in
    any ∙ taken_any 0 c.args.lo c.args.end c.args.self.now c.requires.some c.requires.rising
