use Rattle.std.proofs.Common.{◌≡◌, ◌+◌, ◌-◌, ap, arith}
use Rattle.iova_model.specs.declared.totals.Totals.{Totals}
use Rattle.iova_keep.proofs.Closings.{lowered_more}
use Rattle.iova_keep.proofs.Endings.{known_end_one, known_end_more, told_lowered}
use Rattle.iova_keep.proofs.Flushing.{begun_past}
use Rattle.iova_keep.proofs.closing.end_client.Goals as goal

pub returns-in-None-clause-domain : goal.returns-in-None-clause-domain
returns-in-None-clause-domain g c =
    let h = c.close_first-first in
    let e = ap (λ (t : Totals). t.count) h.ensures.seat.2 in
    let counted : c.args.seat.now.held.count ≡ h.new.seat.held.count + (c.count-before.result - c.count.result) = omega (arith, e, c.count-before.ensures, c.count.ensures) in
    known_end_one _ _ c.args.seat.now h.new.seat.held c.args.id _ _ h.result.reply h.result.begun _ _ _ counted c.ending.ensures h.ensures.domain h.ensures.left

pub returns-in-None-clause-shares : goal.returns-in-None-clause-shares
returns-in-None-clause-shares g c =
    let h = c.close_first-first in
    let e = ap (λ (t : Totals). t.count) h.ensures.seat.2 in
    let counted : c.args.seat.now.held.count ≡ h.new.seat.held.count + (c.count-before.result - c.count.result) = omega (arith, e, c.count-before.ensures, c.count.ensures) in
    told_lowered c.args.seat.now.held h.new.seat.held _ _ _ _ _ _ (h.ensures.seat.0, h.ensures.seat.2) counted c.ending.ensures

pub returns-in-Some-clause-domain : goal.returns-in-Some-clause-domain
returns-in-Some-clause-domain g c =
    let h = c.close_first-first in
    let l = c.close_rest-last in
    let lowered = lowered_more c.args.seat.now.held h.new.seat.held l.new.seat.held (h.ensures.seat.0, h.ensures.seat.2) l.ensures.shares in
    let e = ap (λ (t : Totals). t.count) lowered.1 in
    let counted : c.args.seat.now.held.count ≡ l.new.seat.held.count + (c.count-before.result - c.count-in-Some.result) = omega (arith, e, c.count-before.ensures, c.count-in-Some.ensures) in
    let full = rw c.in-Some.ensures.some at h.ensures.begun in
    known_end_more _ _ _ c.args.seat.now h.new.seat l.new.seat.held c.args.id _ _ c.in-Some.no l.result.ok h.result.reply h.result.begun l.result.heard.reply l.result.heard.begun _ _ _ _ counted
    c.ending-in-Some.ensures h.ensures.rest.0 full.0 c.in-Some.ensures.some h.ensures.domain (rw h.ensures.same at l.ensures.domain) l.ensures.left

pub returns-in-Some-clause-shares : goal.returns-in-Some-clause-shares
returns-in-Some-clause-shares g c =
    let h = c.close_first-first in
    let l = c.close_rest-last in
    let lowered = lowered_more c.args.seat.now.held h.new.seat.held l.new.seat.held (h.ensures.seat.0, h.ensures.seat.2) l.ensures.shares in
    let e = ap (λ (t : Totals). t.count) lowered.1 in
    let counted : c.args.seat.now.held.count ≡ l.new.seat.held.count + (c.count-before.result - c.count-in-Some.result) = omega (arith, e, c.count-before.ensures, c.count-in-Some.ensures) in
    told_lowered c.args.seat.now.held l.new.seat.held _ _ _ _ _ _ lowered counted c.ending-in-Some.ensures

pub returns-in-Some-clause-rounds : goal.returns-in-Some-clause-rounds
returns-in-Some-clause-rounds g c =
    let h = c.close_first-first in
    let f = rw h.ensures.same at c.close_rest-last.ensures.rounds in
    f _ (begun_past c.in-Some.no _ _ _ c.in-Some.ensures.some h.ensures.rest.1)
