-- A flush lies between the unmap of a frame and the next time that it is given.
use Rattle.std.proofs.Common.{ℕ, ◌≡◌, false, take, sym, arith}
use Rattle.std.proofs.lemmas.Option.{slice_get_within}
use Rattle.iova_model.specs.declared.step.Step.{Step}
use Rattle.iova_model.specs.declared.step.Reply.{Reply}
use Rattle.iova_model.specs.declared.step.Reply.TheVariants as reply
use Rattle.iova_model.specs.declared.step.Point.{Point}
use Rattle.iova_model.specs.State.{State}
use Rattle.iova_model.specs.Valid.{IsValid}
use Rattle.iova_model.specs.Next.{next}
use Rattle.iova_model.specs.Transcript.{after, is_ringed}
use Rattle.iova_model.specs.Effects.{Gives}
use Rattle.iova_model.specs.Laws.{ReuseIsFlushed}
use Rattle.iova_laws.proofs.FlushTranscripts.{step_at, transcripts_are_flushed}
use Rattle.iova_laws.proofs.PlaceGiven.{given_not_ringed}
use Rattle.iova_laws.proofs.Valid.{transcripts_keep_validity}

-- a frame that a reply gives is in no ring
gives_not_ringed : (s : State) (st : Step) (m : Point) (r : Reply) (frame : ℕ) → IsValid s → (next s st m).reply ≡ r → Gives frame r → is_ringed frame s.rings ≡ false
gives_not_ringed s st m (reply.Given r) frame valid is has = given_not_ringed s st m r frame valid is has
gives_not_ringed s st m r frame valid is has = absurd has

-- so it has left the rings when it is given again
pub reuse_is_flushed : ReuseIsFlushed
reuse_is_flushed = λ s ps i n frame valid t before unmapped given.
    let p = given.pair in
    let at = step_at s ps n p t given.is in
    let now = after s (take n ps) in
    let gone = gives_not_ringed now p.step p.point p.reply frame (transcripts_keep_validity s (take n ps) valid) (sym at.reply) given.gives in
    transcripts_are_flushed s ps valid t n i frame (omega (arith, slice_get_within ps n p given.is)) before unmapped gone
