use Rattle.std.proofs.Common.{◌<◌, ◌≤◌, ◌*◌, ◌^◌, arith}
use Rattle.iova_range.specs.declared.limits.TheConstants.{MAX_GRANULE}
use Rattle.iova_range.specs.declared.refusal.Refusal.TheVariants as refusal
use Rattle.iova_model.specs.declared.step.Reply.TheVariants as reply
use Rattle.iova_c.specs.Bytes.{frame_at}
use Rattle.iova_c.specs.Slots.{granule_of}
use Rattle.iova_c.proofs.Addresses.{queued_fits}
use Rattle.iova_model.specs.declared.step.Step.{Step}
use Rattle.iova_c.proofs.Filled.{refuses}
use Rattle.iova_c.proofs.bytes.unmap_bytes.Goals as goal

pub of_mapping-requires : goal.of_mapping-requires
of_mapping-requires c =
    let fits = c.ranges.address.fits in let before = c.frame_at.ensures.before in
    let small : c.frame_at.result * c.bytes.result < 2 ^ 64 = rw c.bytes.ensures.is (omega (arith, before, fits)) in
    let most : c.bytes.result ≤ MAX_GRANULE = rw c.bytes.ensures.is c.bytes.ensures.most in
    queued_fits c.bytes.result c.in-Some.paged.domain c.args.worker c.args.client c.frame_at.result c.step.ensures.0 c.step.result most small
    c.workers-workers.ensures.valid c.queued_were_held.ensures c.steps_are_answered_in_kind.ensures c.step.ensures.1

pub returns-in-None : goal.returns-in-None
returns-in-None c =
    let old = c.args.slot.now.domain in
    (reply.Refused refusal.NoDomain, refuses old (Step.Unmap c.args.worker c.args.client (frame_at (granule_of old) c.args.address)) c.in-None.is, c.of_mapping-in-None.ensures)
