use Rattle.std.proofs.Common.{◌∙◌, ap}
use Rattle.std.specs.Prelude.{Some, None}
use Rattle.iova_keep.proofs.Doing.{known_in_one, known_in_vain, known_in_two}
use Rattle.iova_keep.proofs.Rounds.{no_round}
use Rattle.iova_keep.proofs.Flushing.{place_then, place_begun, place_at_end, ends_any, begun_past}
use Rattle.iova_keep.proofs.calls.unmap.Goals as goal

pub returns-in_default-clause-domain : goal.returns-in_default-clause-domain
returns-in_default-clause-domain g c =
    known_in_one _ _ _ _ c.unmap_first-reply.result.reply c.unmap_first-reply.result.begun _ _ _ c.answer.ensures.is c.in_default.is c.unmap_first-reply.ensures.domain

pub returns-in_default-number-clause-domain : goal.returns-in_default-number-clause-domain
returns-in_default-number-clause-domain g c =
    let h = c.unmap_first-reply in
    known_in_vain _ _ _ _ h.result.reply h.result.begun _ c.in_default-number.field-0 _ _ (c.in-Some.is ∙ ap Some c.in_default-number.ensures.is) c.answer-in_default-number.ensures.is h.ensures.begun h.ensures.domain

pub returns-clause-domain : goal.returns-clause-domain
returns-clause-domain g c =
    let h = c.unmap_first-reply in
    let begun = c.in-Some.is ∙ ap Some c.in-Ok.ensures.is in
    let full = rw begun at h.ensures.begun in
    let same = rw full.0 at h.ensures.seat in
    let k = rw (c.number-2.ensures, h.ensures.same) at c.ask-ok.ensures.calls in
    known_in_two _ _ _ _ _ c.in-Ok.no c.ask-ok.result h.result.reply h.result.begun c.unmap_again.result.reply _ _ _ _ begun c.answer-2.ensures.is k h.ensures.domain (rw (c.ask-ok.ensures.seat, same, h.ensures.rest.0) at c.unmap_again.ensures.domain)

pub returns-clause-place : goal.returns-clause-place
returns-clause-place g c =
    place_then _ _ _ _ _ _ (place_begun _ _ _ _ c.unmap_first-reply.ensures.rest)
    (place_at_end c.in-Ok.no c.ask-ok.result _ _ _ _ c.number-2.result _ _ c.ask-ok.ensures.seat c.unmap_again.ensures.place c.ask-ok.ensures.calls)

pub returns-clause-rounds : goal.returns-clause-rounds
returns-clause-rounds g c =
    let h = c.unmap_first-reply in
    let begun = c.in-Some.is ∙ ap Some c.in-Ok.ensures.is in
    let k = rw (c.number-2.ensures, h.ensures.same) at c.ask-ok.ensures.calls in
    ends_any _ c.in-Ok.no c.ask-ok.result None None _ _ _ _ _ _ _ _ (begun_past c.in-Ok.no _ _ _ begun h.ensures.rest.1) c.ask-ok.ensures.seat c.unmap_again.ensures.place
    tt (λ n e. cc) k (no_round _ _ _)
