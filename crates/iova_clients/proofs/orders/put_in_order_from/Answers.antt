use Rattle.std.proofs.Common.{◌≡◌, ◌++◌, length, sym, ap, ◌∙◌}
use Rattle.std.proofs.lemmas.List.Sorted.{length_permutation}
use Rattle.iova_clients.proofs.Heaping.{appended, slice_behind}
use Rattle.iova_clients.proofs.orders.put_in_order_from.Goals as goal

pub returns-clause-rising : goal.returns-clause-rising
returns-clause-rising c before rising start rises appends =
    let all = c.args.ranges.now in
    let zs = c.put_in_order.new.ranges in
    let more = appends.0 in
    let long = length_permutation rising more appends.2 in
    let slice : c.slice_mut.result.now ≡ more = c.slice_mut.ensures.value ∙ slice_behind all.items before more c.args.from c.len-len.result start appends.1 (sym (c.len-len.ensures ∙ all.ok.0)) in
    let value : zs ≡ rising = c.put_in_order.ensures.rising rising rises (rw slice appends.2) in
    appended all.items before more zs c.args.from all.len start appends.1 (ap length value ∙ sym long) (sym all.ok.0) ∙ ap (λ l. before ++ l) value
