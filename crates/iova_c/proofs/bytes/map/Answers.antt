use Rattle.iova_c.specs.Bytes.{frames_of, last_frame}
use Rattle.iova_c.specs.Slots.{granule_of}
use Rattle.iova_range.specs.declared.refusal.Refusal.TheVariants as refusal
use Rattle.iova_model.specs.declared.step.Reply.TheVariants as reply
use Rattle.iova_model.specs.declared.step.Step.{Step}
use Rattle.iova_c.proofs.Filled.{refuses}
use Rattle.iova_c.proofs.bytes.map.Goals as goal

pub returns-in-None : goal.returns-in-None
returns-in-None c =
    let old = c.args.slot.now.domain in (
      reply.Refused refusal.NoDomain,
      refuses old (Step.Alloc c.args.worker c.args.client (frames_of (granule_of old) c.args.bytes) (last_frame (granule_of old) c.args.mask)) c.in-None.is,
      c.of_mapping-in-None.ensures,
    )
