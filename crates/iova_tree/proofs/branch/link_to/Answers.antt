use Rattle.std.proofs.Common.{◌≡◌, ◌+◌, ◌<◌, ◌≤◌, length, slice_index_or, ap, arith, rules}
use Rattle.std.specs.Prelude.{nat_le}
use Rattle.std.proofs.lemmas.List.{get_or_default}
use Rattle.std.proofs.lemmas.List.Sorted.{IsPartitionPoint-from_clause, IsPartitionedBy-leb}
use Rattle.std.proofs.lemmas.Bool.Decides.{nat_tests}
use Rattle.iova_tree.specs.declared.branch.Link.{Link}
use Rattle.iova_tree.proofs.Places.{firsts_sorted, leads_to}
use Rattle.iova_tree.proofs.branch.link_to.Goals as goal

pub returns-then-frame-links : goal.returns-then-frame-links
returns-then-frame-links g c =
    let links = c.args.links.now in
    let last = c.args.last in
    let here = c.index-links-last in
    let next = c.index-links-last-then-links-last in
    let sorted = firsts_sorted g.N.Node.spans 0 links c.requires.linked c.requires.rising in
    let lt : last + 1 < length links = omega (arith, c.if-last-links.true) in
    let low : (slice_index_or links last here.result).first ≤ c.args.frame = omega (arith, c.if-links-last.true) in
    let high : c.args.frame < (slice_index_or links (last + 1) next.result).first = omega (arith, c.if-frame-links.true) in
    leads_to g.N.Node.spans c.args.frame links last (last + 1) (omega arith) c.requires.some (omega (arith, lt)) c.requires.linked c.requires.rising
    (λ k d le. (
    let s = sorted k last d (omega (arith, le)) (omega (arith, lt)) in
    let e : (slice_index_or links last d).first ≡ (slice_index_or links last here.result).first = ap (λ (x : Link g.row.N.Denot). x.first) (get_or_default links last d here.result (omega (arith, lt))) in
    omega (arith, s, e, low)
    ))
    (λ k d le more. (
    let s = sorted (last + 1) k d le more in
    let e : (slice_index_or links (last + 1) d).first ≡ (slice_index_or links (last + 1) next.result).first = ap (λ (x : Link g.row.N.Denot). x.first) (get_or_default links (last + 1) d next.result lt) in
    omega (arith, s, e, high)
    ))

pub returns : goal.returns
returns g c =
    let links = c.args.links.now in
    let parted = IsPartitionedBy-leb (λ (k : Link g.row.N.Denot). k.first) links c.args.frame (firsts_sorted g.N.Node.spans 0 links c.requires.linked c.requires.rising) in
    let point = IsPartitionPoint-from_clause (λ (k : Link g.row.N.Denot). nat_le k.first c.args.frame) links c.partition_point.result c.partition_point.ensures.partitioned parted (λ a r q called. search rules) in
    leads_to g.N.Node.spans c.args.frame links c.saturating_sub.result c.partition_point.result (omega (arith, c.saturating_sub.ensures)) c.requires.some c.partition_point.ensures.bound c.requires.linked c.requires.rising
    (λ k d lt. (let t = point.0 k d (omega (arith, c.partition_point.ensures.bound)) lt in grind (arith, nat_tests)))
    (λ k d le lt. (let t = point.1 k d le lt in grind (arith, nat_tests)))
