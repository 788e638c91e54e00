use Rattle.std.proofs.Common.{append_assoc}
use Rattle.iova_text.proofs.Pairs.{PAIRS_at}
use Rattle.iova_text.proofs.buffer.put_pair.Goals as goal

pub returns : goal.returns
returns g c =
    let at = PAIRS_at c.args.n c.requires.short in
    rw (c.push-2.ensures.items, c.push.ensures.items, at.0, at.1) (append_assoc c.args.out.now.items _ _)
