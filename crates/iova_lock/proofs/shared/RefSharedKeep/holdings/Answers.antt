use Rattle.std.proofs.Common.{sym, ◌∙◌}
use Rattle.iova_lock.proofs.Listing.{held_most}
use Rattle.iova_lock.proofs.shared.RefSharedKeep.holdings.Goals as goal

pub returns-clause-most : goal.returns-clause-most
returns-clause-most g c =
    let old = c.args.ranges.now in
    let held = c.in_ok-append_holdings.ensures.ok in
    held_most old.items c.append_holdings.new.ranges.items c.put_in_order_from.new.ranges.items c.len-from.result (sym (c.len-from.ensures ∙ old.ok.0)) held c.put_in_order_from.ensures.rising
