use Rattle.std.proofs.Common.{Ok, sym, ◌∙◌}
use Rattle.iova_lock.proofs.Listing.{came_held, held_most}
use Rattle.iova_lock.proofs.holds.BookKeep.holdings.Goals as goal

pub returns-clause-most : goal.returns-clause-most
returns-clause-most g c =
    let old = c.args.ranges.now in
    let mid = c.append_holdings.new.ranges.items in
    let came = c.in_ok-append_holdings.ensures in
    let held = came_held _ (Ok c.in_ok-append_holdings.field-0) old.items mid came.held came.is in
    held_most old.items mid c.put_in_order_from.new.ranges.items c.len-from.result (sym (c.len-from.ensures ∙ old.ok.0)) held c.put_in_order_from.ensures.rising
