use Rattle.std.proofs.Common.{arith}
use Rattle.std.specs.Prelude.{None, Some}
use Rattle.iova_keep.proofs.Rounds.{no_round}
use Rattle.iova_keep.proofs.Flushing.{place_then, place_at_end, ends_any}
use Rattle.iova_keep.proofs.Closings.{lowered_more}
use Rattle.iova_keep.proofs.Endings.{known_rest_last, known_rest_more, failed_at_most, failed_then}
use Rattle.iova_keep.proofs.closing.+close_rest.Goals as goal

pub returns-in-None-clause-domain : goal.returns-in-None-clause-domain
returns-in-None-clause-domain g t c =
    let k = rw c.number.ensures at c.ask-ok.ensures.calls in
    known_rest_last _ _ c.args.seat.now c.close_again-heard.new.seat.held c.args.id c.args.no c.ask-ok.result c.close_again-heard.result.reply c.close_again-heard.result.begun _ _ _ k
    (rw c.ask-ok.ensures.seat at c.close_again-heard.ensures.domain)

pub returns-in-None-clause-failed : goal.returns-in-None-clause-failed
returns-in-None-clause-failed g t c = failed_at_most _ _ _ _ _ c.ask-ok.ensures.calls

pub returns-in-None-clause-fault : goal.returns-in-None-clause-fault
returns-in-None-clause-fault g t c = λ e. failed_then _ _ _ _ _ c.ask-ok.ensures.calls e

pub returns-in-None-clause-place : goal.returns-in-None-clause-place
returns-in-None-clause-place g t c =
    place_at_end c.args.no c.ask-ok.result _ _ _ _ c.number.result _ _ c.ask-ok.ensures.seat c.close_again-heard.ensures.place c.ask-ok.ensures.calls

pub returns-in-None-clause-rounds : goal.returns-in-None-clause-rounds
returns-in-None-clause-rounds g t c =
    let k = rw c.number.ensures at c.ask-ok.ensures.calls in
    λ first is. ends_any _ c.args.no c.ask-ok.result None _ first _ _ _ _ _ _ _ is c.ask-ok.ensures.seat c.close_again-heard.ensures.place
    tt c.in-None.ensures.none k (no_round _ _ _)

pub returns-in-Some-clause-domain : goal.returns-in-Some-clause-domain
returns-in-Some-clause-domain g t c =
    let h = c.close_again-heard in
    let k = rw c.number.ensures at c.ask-ok.ensures.calls in
    let full = rw c.in-Some.ensures.some at h.ensures.begun in
    known_rest_more _ _ _ c.args.seat.now h.new.seat c.close_rest.new.seat.held c.args.id c.args.no c.in-Some.next c.ask-ok.result c.close_rest.result.ok h.result.reply h.result.begun c.close_rest.result.heard.reply c.close_rest.result.heard.begun _ _ _ _ k (rw c.ask-ok.ensures.seat at h.ensures.place.worker) full.0 c.in-Some.ensures.some
    (rw c.ask-ok.ensures.seat at h.ensures.domain) (rw h.ensures.same at c.close_rest.ensures.domain)

pub returns-in-Some-clause-shares : goal.returns-in-Some-clause-shares
returns-in-Some-clause-shares g t c = let h = rw c.ask-ok.ensures.seat at c.close_again-heard.ensures.seat in lowered_more _ _ _ (h.0, h.2) c.close_rest.ensures.shares

pub returns-in-Some-clause-failed : goal.returns-in-Some-clause-failed
returns-in-Some-clause-failed g t c =
    let first = failed_at_most _ _ _ _ _ c.ask-ok.ensures.calls in
    let rest = c.close_rest.ensures.failed in
    omega (arith, first, rest)

pub returns-in-Some-clause-fault : goal.returns-in-Some-clause-fault
returns-in-Some-clause-fault g t c = λ e.
    let first = failed_at_most _ _ _ _ _ c.ask-ok.ensures.calls in
    let rest = c.close_rest.ensures.fault e in
    omega (arith, first, rest)

pub returns-in-Some-clause-place : goal.returns-in-Some-clause-place
returns-in-Some-clause-place g t c =
    place_then _ _ _ _ _ _
    (place_at_end c.args.no c.ask-ok.result _ _ _ _ c.number.result _ _ c.ask-ok.ensures.seat c.close_again-heard.ensures.place c.ask-ok.ensures.calls)
    c.close_rest.ensures.place

pub returns-in-Some-clause-rounds : goal.returns-in-Some-clause-rounds
returns-in-Some-clause-rounds g t c =
    let h = c.close_again-heard in
    let k = rw c.number.ensures at c.ask-ok.ensures.calls in
    let f = rw h.ensures.same at c.close_rest.ensures.rounds in
    λ first is. ends_any _ c.args.no c.ask-ok.result (Some c.in-Some.next) _ first _ _ _ _ _ _ _ is c.ask-ok.ensures.seat h.ensures.place
    c.in-Some.ensures.some tt k f
