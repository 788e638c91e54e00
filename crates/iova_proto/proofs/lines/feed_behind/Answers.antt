use Rattle.std.proofs.Common.{ℕ, List, sym, subst}
use Rattle.iova_proto.specs.Feeds.{Feeds, state_behind}
use Rattle.iova_proto.proofs.lines.feed_behind.Goals as goal

pub returns-in-Some : goal.returns-in-Some
returns-in-Some c =
    let P : List ℕ → Type 0 = λ x. Feeds c.args.cutter.now x c.end_line.result (state_behind c.end_line.result c.end_line.new.cutter) in
    subst P (sym c.in-Some.ensures.cut) (c.end_line.ensures c.in-Some._behind.now)
