use Rattle.std.proofs.Common.{◌+◌, ◌<◌, ◌^◌, None, sym, ap, ◌∙◌, subst, arith, rules}
use Rattle.iova_session.specs.Desks.{SessionState, IsAnswer, next_client, count_listed}
use Rattle.iova_session.specs.Pairs.{Pair}
use Rattle.iova_session.proofs.InTurn.{client_after_more, listed_after_more, answers_more, list_fits}
use Rattle.iova_session.proofs.session.Session.add.Goals as goal

pub overflow_add-listed : goal.overflow_add-listed
overflow_add-listed c =
    let ok = subst (λ (s : SessionState). IsAnswer s.number s.client s.listed c.args.request c.args.answer.now) (sym c.self.view_is) c.requires in
    let fits = list_fits c.self.inside.number c.self.inside.client c.self.inside.listed _ _ c.self.invariant.2 ok in
    let less : c.self.inside.listed + c.count_listed.result < 2 ^ 64 = rw c.count_listed.ensures (omega (arith, fits)) in
    search rules

pub invariant_of-self : goal.invariant_of-self
invariant_of-self c =
    let p : Pair = record { request = c.args.request; answer = c.args.answer.now } in
    let ok = subst (λ (s : SessionState). IsAnswer s.number s.client s.listed c.args.request c.args.answer.now) (sym c.self.view_is) c.requires in
    let fits = list_fits c.self.inside.number c.self.inside.client c.self.inside.listed _ _ c.self.invariant.2 ok in
    let turn = rw (c.self.invariant.0, c.self.invariant.1) at ok in
    rw c.add.ensures (
      c.note_client.ensures ∙ ap (λ x. next_client x c.args.answer.now) c.self.invariant.0 ∙ sym (client_after_more None c.self.inside.log p),
      ap (λ n. c.self.inside.listed + n) c.count_listed.ensures ∙ ap (λ n. n + count_listed c.args.answer.now) c.self.invariant.1 ∙ sym (listed_after_more 0 c.self.inside.log p),
      rw c.count_listed.ensures fits,
      answers_more c.self.inside.number None 0 c.self.inside.log p c.self.invariant.3 turn,
    )
