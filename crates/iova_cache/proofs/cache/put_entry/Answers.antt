use Rattle.std.proofs.Common.{ap, ◌∙◌}
use Rattle.iova_range.specs.Frames.{Frames}
use Rattle.iova_cache.proofs.Orders.{entry_few, entry_order}
use Rattle.iova_cache.proofs.Settling.{put_is, full_is}
use Rattle.iova_cache.proofs.cache.put_entry.Goals as goal

pub order_of_need-requires-clause-few : goal.order_of_need-requires-clause-few
order_of_need-requires-clause-few c = entry_few c.args.entry c.requires

pub put-requires-clause-size : goal.put-requires-clause-size
put-requires-clause-size c =
    let both = entry_order c.args.entry c.order_of_need.result c.requires c.order_of_need.ensures.is in
    ap (λ (r : Frames). r.len) c.new-range.ensures ∙ both.1

pub returns-clause-put : goal.returns-clause-put
returns-clause-put c =
    let both = entry_order c.args.entry c.order_of_need.result c.requires c.order_of_need.ensures.is in
    put_is c.put.result _ _ c.args.entry c.order_of_need.result c.new-range.result both.0 c.new-range.ensures c.put.ensures.put

pub returns-clause-full : goal.returns-clause-full
returns-clause-full c =
    let both = entry_order c.args.entry c.order_of_need.result c.requires c.order_of_need.ensures.is in
    full_is c.put.result _ c.args.entry c.order_of_need.result both.0 c.put.ensures.full
