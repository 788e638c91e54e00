use Rattle.std.proofs.Common.{◌≡◌, ◌<◌, ◌≤◌, ◌+◌, ◌-◌, ◌/◌, inl, inr, length, arith, ◌∙◌}
use Rattle.std.proofs.lemmas.Bool.{cases_eq}
use Rattle.std.proofs.lemmas.List.Sorted.{IsPermutation-trans}
use Rattle.iova_clients.specs.Heaps.{IsBelow}
use Rattle.iova_clients.proofs.Linking.{by_either}
use Rattle.iova_clients.proofs.Sifting.{lo_at, lo_read, up_others, up_under, swapped_los}
use Rattle.iova_clients.proofs.heaps.sift_up.Goals as goal

pub loop-place-preserved : goal.loop-place-preserved
loop-place-preserved c =
    let xs = c.loop-place.cells in
    let ys = c.swap.new.self in
    let i = c.loop-place.invariant in
    let at = c.loop-place.place in
    let high = (at - 1) / 2 in
    let more : high < at = omega (arith, c.loop-place-test.true) in
    let below : IsBelow high at = by_either (cases_eq at (high + high + 1)) (λ is. inl is) (λ ne. inr (omega (arith, ne, c.loop-place-test.true))) in
    let len : length ys ≡ length xs = c.swap.ensures.len in
    let there = lo_read xs high c.index-cells-over.result c.lo.result (omega (arith, more, i.0)) c.index-cells-over.is c.lo.ensures in
    let here = lo_read xs at c.index-cells-place.result c.lo-in-loop-place.result i.0 c.index-cells-place.is c.lo-in-loop-place.ensures in
    let le : lo_at xs at ≤ lo_at xs high = omega (arith, c.if-lo.false, here, there) in
    let s = swapped_los xs ys high at c.swap.ensures.by_index in (
      rw len (omega (arith, more, i.0)),
      len ∙ i.1,
      IsPermutation-trans _ xs ys i.2 c.swap.ensures.permutation,
      rw len (up_others (lo_at xs) (lo_at ys) (length xs) at high s.1 s.0 (λ k na nb. s.2 k nb na) below le i.3 i.4),
      rw len (up_under (lo_at xs) (lo_at ys) (length xs) at high s.1 (λ k na nb. s.2 k nb na) below (omega (arith, more, i.0)) i.3),
    )
