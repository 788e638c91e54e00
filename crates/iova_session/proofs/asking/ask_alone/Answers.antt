use Rattle.std.proofs.Common.{refl, sym, ap, ◌∙◌, subst}
use Rattle.iova_proto.specs.declared.answer.Answer.{Answer}
use Rattle.iova_proto.specs.declared.answer.Answer.TheVariants as answer
use Rattle.iova_proto.specs.declared.request.Request.{Request}
use Rattle.iova_proto.specs.declared.request.Request.TheVariants as request
use Rattle.iova_session.specs.Desks.{IsClientAnswer, MovesBy, given_by, taken_by}
use Rattle.iova_session.specs.Domains.{release_answer}
use Rattle.iova_session.proofs.Alone.{free_does, list_does, nothing_does}
use Rattle.iova_session.proofs.ToldPairs.{released_answers, released_moves}
use Rattle.iova_session.proofs.asking.ask_alone.Goals as goal

pub returns-in-Ok-clause-answer : goal.returns-in-Ok-clause-answer
returns-in-Ok-clause-answer g c =
    subst (λ (r : Request). IsClientAnswer c.args.listed r c.released.result) (sym c.in-Free.is)
    (subst (IsClientAnswer c.args.listed (request.Free c.in-Free.lo)) (sym c.released.ensures)
    (released_answers c.args.listed c.in-Free.lo c.in-Ok.unmapped c.in-Ok.ensures.answer))

pub returns-in-Ok-clause-shares : goal.returns-in-Ok-clause-shares
returns-in-Ok-clause-shares g c =
    subst (λ (a : Answer). MovesBy (given_by a) (taken_by a) c.args.seat.now.held c.release-result.new.seat.held) (sym c.released.ensures)
    (released_moves c.in-Ok.unmapped c.args.seat.now.held c.release-result.new.seat.held c.in-Ok.ensures.seat)

pub returns-in-Ok-clause-does : goal.returns-in-Ok-clause-does
returns-in-Ok-clause-does g c =
    rw c.unlock.ensures
    (free_does _ _ _ _ c.args.seat.now c.args.id c.args.listed c.in-Free.lo c.args.request c.release-result.result c.released.result _ _ c.in-Free.is
    (c.released.ensures ∙ sym (ap release_answer c.in-Ok.is)) (rw c.lock.ensures at c.release-result.ensures.domain))

pub returns-in-Err-clause-does : goal.returns-in-Err-clause-does
returns-in-Err-clause-does g c =
    rw c.unlock.ensures
    (free_does _ _ _ _ c.args.seat.now c.args.id c.args.listed c.in-Free.lo c.args.request c.release-result.result (answer.Refused c.in-Err.refusal) _ _ c.in-Free.is
    (sym (ap release_answer c.in-Err.is)) (rw c.lock.ensures at c.release-result.ensures.domain))

pub returns-in-Hello-clause-does : goal.returns-in-Hello-clause-does
returns-in-Hello-clause-does g c = nothing_does _ _ _ c.args.seat.now c.args.id c.args.listed c.args.request _ _ _ c.in-Hello.is (λ s. (refl, refl, refl))

pub returns-in-List-clause-does : goal.returns-in-List-clause-does
returns-in-List-clause-does g c = list_does _ _ _ c.args.seat.now c.args.id c.args.listed c.args.request c.list.result _ c.in-List.is c.list.ensures.domain

pub returns-in-Flush-clause-does : goal.returns-in-Flush-clause-does
returns-in-Flush-clause-does g c = rw c.unlock-in-Flush.ensures (rw c.in-Flush.is (rw c.lock-in-Flush.ensures at c.flush_and_drain-answer.ensures.flushes))

pub returns-in-Bye-clause-does : goal.returns-in-Bye-clause-does
returns-in-Bye-clause-does g c = nothing_does _ _ _ c.args.seat.now c.args.id c.args.listed c.args.request _ _ _ c.in-Bye.is (λ s. (refl, refl, refl))
