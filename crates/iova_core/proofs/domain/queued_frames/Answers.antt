use Rattle.std.proofs.Common.{sum_by, refl, ap, ◌∙◌, arith}
use Rattle.std.proofs.lemmas.List.{take_all}
use Rattle.std.proofs.lemmas.List.Sums.{sum_by_more}
use Rattle.iova_flush.specs.Rings.{frame_count}
use Rattle.iova_core.proofs.domain.queued_frames.Goals as goal

pub loop-ring-init : goal.loop-ring-init
loop-ring-init c = record { counted = refl; few = omega arith }

pub overflow_add-frames : goal.overflow_add-frames
overflow_add-frames c =
    let few = c.loop-ring.invariant.few in
    let one = c.frames-frames.ensures.bounded in
    omega (arith, few, one, c.loop-ring-test.true, c.requires)

pub loop-ring-preserved : goal.loop-ring-preserved
loop-ring-preserved c =
    let more = sum_by_more frame_count c.args.rings.now c.loop-ring.ring-index c.ring-item.result c.loop-ring-test.true in
    let same = ap frame_count c.ring-item.is in
    let few = c.loop-ring.invariant.few in
    let counted = c.loop-ring.invariant.counted in
    let one = c.frames-frames.ensures.bounded in
    record {
      counted = omega (arith, more, same, c.frames-frames.ensures.is, counted);
      few = omega (arith, few, one);
    }

pub returns : goal.returns
returns c = c.loop-ring.invariant.counted ∙ ap (λ xs. sum_by frame_count xs) (take_all c.loop-ring.ring-index c.args.rings.now c.loop-ring-test.false)
