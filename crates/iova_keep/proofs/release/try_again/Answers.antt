use Rattle.std.specs.Prelude.{None}
use Rattle.iova_keep.proofs.Releases.{known_rest_queued, known_rest_refused}
use Rattle.iova_keep.proofs.Rounds.{no_round}
use Rattle.iova_keep.proofs.Flushing.{place_then, place_at_end, ends_any, none_second}
use Rattle.iova_keep.proofs.release.try_again.Goals as goal

pub returns-in-Ok-clause-domain : goal.returns-in-Ok-clause-domain
returns-in-Ok-clause-domain g c =
    let h = c.release_again-heard in
    let k = rw c.number.ensures at c.ask-ok.ensures.calls in
    let f = rw (c.flush_begun-begun.ensures.is, h.ensures.same) at c.follow.ensures.domain in
    known_rest_queued _ _ _ _ c.args.seat.now _ _ _ _ c.ask-ok.result _ h.result.reply h.result.begun _ _ _ _ _ c.in-Ok.ensures.is k (rw c.ask-ok.ensures.seat at h.ensures.place.worker) (rw c.ask-ok.ensures.seat at h.ensures.domain) f

pub returns-in-Err-clause-domain : goal.returns-in-Err-clause-domain
returns-in-Err-clause-domain g c =
    let h = c.release_again-heard in
    let k = rw c.number.ensures at c.ask-ok.ensures.calls in
    known_rest_refused _ _ _ c.args.seat.now _ _ _ c.ask-ok.result _ h.result.reply h.result.begun _ _ _ c.in-Err.ensures.is k (rw c.ask-ok.ensures.seat at h.ensures.domain)

pub returns-in-Ok-clause-place : goal.returns-in-Ok-clause-place
returns-in-Ok-clause-place g c =
    place_then _ _ _ _ _ _
    (place_at_end c.args.no c.ask-ok.result _ _ _ _ c.number.result _ _ c.ask-ok.ensures.seat c.release_again-heard.ensures.place c.ask-ok.ensures.calls)
    c.follow.ensures.place

pub returns-in-Err-clause-place : goal.returns-in-Err-clause-place
returns-in-Err-clause-place g c =
    place_at_end c.args.no c.ask-ok.result _ _ _ _ c.number.result _ _ c.ask-ok.ensures.seat c.release_again-heard.ensures.place c.ask-ok.ensures.calls

pub returns-in-Ok-clause-rounds : goal.returns-in-Ok-clause-rounds
returns-in-Ok-clause-rounds g c =
    let h = c.release_again-heard in
    let k = rw c.number.ensures at c.ask-ok.ensures.calls in
    let f = rw h.ensures.same at c.follow.ensures.rounds in
    λ first is. ends_any _ c.args.no c.ask-ok.result c.flush_begun-begun.result _ first _ _ _ _ _ _ _ is c.ask-ok.ensures.seat h.ensures.place
    c.flush_begun-begun.ensures.some c.flush_begun-begun.ensures.none k f

pub returns-in-Err-clause-rounds : goal.returns-in-Err-clause-rounds
returns-in-Err-clause-rounds g c =
    let h = c.release_again-heard in
    let k = rw c.number.ensures at c.ask-ok.ensures.calls in
    λ first is. ends_any _ c.args.no c.ask-ok.result None _ first _ _ _ _ _ _ _ is c.ask-ok.ensures.seat h.ensures.place
    tt (none_second c.in-Err.refusal _ _ c.in-Err.ensures.is h.ensures.begun) k (no_round _ _ _)
