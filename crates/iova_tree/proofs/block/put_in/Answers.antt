use Rattle.std.proofs.Common.{arith}
use Rattle.iova_tree.proofs.Moved.{moved_up}
use Rattle.iova_tree.proofs.block.put_in.Goals as goal

pub returns : goal.returns
returns c = record { items = rw (c.copy_within.ensures.items, c.in-Ok.ensures.items) (moved_up c.args.spans.now.items c.args.at c.len-count.result c.args.span (omega (arith, c.len-count.ensures)) c.requires.within) }
