use Rattle.std.proofs.Common.{sym}
use Rattle.iova_keep.proofs.Releases.{known_release_queued, known_release_refused, known_release_rest}
use Rattle.iova_keep.proofs.Flushing.{any_rounds, begun_past}
use Rattle.iova_keep.proofs.release.release.Goals as goal

pub returns-in-Ok-clause-domain : goal.returns-in-Ok-clause-domain
returns-in-Ok-clause-domain g c =
    let h = c.release_first-heard in
    let f = rw (c.flush_begun-begun.ensures.is, h.ensures.same) at c.follow.ensures.domain in
    known_release_queued _ _ _ _ c.args.seat.now _ _ _ _ h.result.reply h.result.begun _ _ _ _ c.in-Ok.ensures.is h.ensures.rest.0 h.ensures.domain f

pub returns-in-None-clause-domain : goal.returns-in-None-clause-domain
returns-in-None-clause-domain g c =
    let h = c.release_first-heard in
    known_release_refused _ _ _ c.args.seat.now _ _ _ h.result.reply h.result.begun _ _ c.in-Err.ensures.is (sym c.in-None.ensures.is) h.ensures.domain

pub returns-in-Some-clause-domain : goal.returns-in-Some-clause-domain
returns-in-Some-clause-domain g c =
    let h = c.release_first-heard in
    let f = rw (h.ensures.same) at c.try_again.ensures.domain in
    let same = rw c.in-Err.ensures.is at h.ensures.seat in
    known_release_rest _ _ _ _ c.args.seat.now h.new.seat _ _ _ _ h.result.reply h.result.begun _ _ _ _ c.in-Err.ensures.is (sym c.in-Some.ensures.is) h.ensures.rest.0 same h.ensures.domain f

pub returns-in-Ok-clause-rounds : goal.returns-in-Ok-clause-rounds
returns-in-Ok-clause-rounds g c =
    let h = c.release_first-heard in
    let f = rw h.ensures.same at c.follow.ensures.rounds in
    any_rounds _ c.flush_begun-begun.result _ _ _ _ _ _ c.flush_begun-begun.ensures.some c.flush_begun-begun.ensures.none h.ensures.rest.1 f

pub returns-in-Some-clause-rounds : goal.returns-in-Some-clause-rounds
returns-in-Some-clause-rounds g c =
    let h = c.release_first-heard in
    let f = rw h.ensures.same at c.try_again.ensures.rounds in
    f _ (begun_past c.in-Some.no _ _ _ c.in-Some.ensures.some h.ensures.rest.1)
