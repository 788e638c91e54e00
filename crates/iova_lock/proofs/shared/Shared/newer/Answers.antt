use Rattle.std.proofs.Common.{sym, ◌∙◌}
use Rattle.iova_lock.proofs.Listing.{newer_rising}
use Rattle.iova_lock.proofs.shared.Shared.newer.Goals as goal

pub returns-clause-ok : goal.returns-clause-ok
returns-clause-ok g c =
    let found = c.in_ok-id.ensures.ok in
    let start = c.args.ranges.now.ok.0 in (
      found.0,
      found.1,
      record {
        serial = found.2.serial;
        ranges = c.put_in_order_from.ensures.rising c.args.ranges.now.items _ (sym (c.len-from.ensures ∙ start)) (newer_rising found.0 c.in_ok-id.id found.1.book) found.2.ranges;
      },
    )
