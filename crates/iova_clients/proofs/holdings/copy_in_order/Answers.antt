use Rattle.std.proofs.Common.{◌≡◌, ◌++◌, length, take, drop, length-take-le, ap, ◌∙◌}
use Rattle.std.proofs.lemmas.List.{take_at}
use Rattle.iova_clients.specs.Chains.{range_at}
use Rattle.iova_clients.specs.Orders.{ordered}
use Rattle.iova_clients.proofs.Ordering.{ordered_permuted, ordered_rises}
use Rattle.iova_clients.proofs.holdings.copy_in_order.Goals as goal

pub returns-clause-front : goal.returns-clause-front
returns-clause-front c =
    let cells = c.args.cells.now in
    let n = c.args.count in
    let copied = c.copy_from_slice.new.self in
    let zs = c.put_in_order.new.ranges in
    let front : length (take n cells) ≡ n = length-take-le n cells c.requires.within in
    let is : copied ≡ take n cells = c.copy_from_slice.ensures.after in
    let read : take n (copied ++ drop n c.args.list.now) ≡ take n cells = take_at copied (drop n c.args.list.now) n (ap length is ∙ front) ∙ is in
    let value : zs ≡ ordered cells n = c.put_in_order.ensures.rising (ordered cells n) (ordered_rises (range_at cells) n c.requires.apart) (rw read (ordered_permuted cells n c.requires.within)) in
    let long : length zs ≡ n = c.put_in_order.ensures.len ∙ (ap length read ∙ front) in
    take_at zs (drop n (copied ++ drop n c.args.list.now)) n long ∙ value
