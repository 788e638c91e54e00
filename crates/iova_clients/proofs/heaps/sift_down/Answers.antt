use Rattle.std.proofs.Common.{◌≡◌, ◌<◌, ◌≤◌, length, arith}
use Rattle.std.proofs.lemmas.List.Sorted.{IsPermutation-trans}
use Rattle.iova_clients.proofs.Sifting.{lo_at, lo_read, below_over, down_others, down_over, swapped_los}
use Rattle.iova_clients.proofs.heaps.sift_down.Goals as goal

pub loop-place-preserved : goal.loop-place-preserved
loop-place-preserved c =
    let xs = c.loop-place.cells in
    let ys = c.swap.new.self in
    let i = c.loop-place.invariant in
    let at = c.loop-place.place in
    let low = c.lower_below-low.result in
    let b = c.lower_below-low.ensures in
    let more = below_over at low b.below in
    let within : low < length xs = b.within in
    let len : length ys ≡ length xs = c.swap.ensures.len in
    let here = lo_read xs at c.index-cells-place.result c.lo.result (omega (arith, more, within)) c.index-cells-place.is c.lo.ensures in
    let there = lo_read xs low c.index-cells-low.result c.lo-in-loop-place.result within c.index-cells-low.is c.lo-in-loop-place.ensures in
    let le : lo_at xs low ≤ lo_at xs at = omega (arith, c.if-lo.false, here, there) in
    let s = swapped_los xs ys at low c.swap.ensures.by_index in (
      omega (arith, i.0, more),
      rw len within,
      omega (arith, len, i.2),
      IsPermutation-trans c.args.cells.now xs ys i.3 c.swap.ensures.permutation,
      rw len (down_others (lo_at xs) (lo_at ys) c.args.from (length xs) at low s.0 s.1 s.2 b.below le b.lower i.4 i.5 i.0 within),
      rw len (down_over (lo_at xs) (lo_at ys) c.args.from (length xs) at low s.0 s.2 b.below i.4 i.0),
    )
