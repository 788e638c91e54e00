use Rattle.std.proofs.Common.{◌≡◌, ◌∙◌, refl, sym, ap, arith, Vec, Global}
use Rattle.iova_keep.specs.Views.{Identity, SeatState}
use Rattle.iova_proto.specs.declared.answer.Answer.{Answer}
use Rattle.iova_session.specs.Desks.{SessionState, MovesBy, given_by, taken_by}
use Rattle.iova_session.proofs.ToldPairs.{one_asked}
use Rattle.iova_session.proofs.Leads.{goes_nowhere, same_state, first_goes, alone_goes}
use Rattle.iova_session.proofs.session_desk.ask_front.Goals as goal
use Rattle.iova_session.proofs.session_desk.ask_front.Goals.{in-None, in-Some+in_ok-count-in-Some+else-count-gt0}

pub returns-clause-ok : goal.returns-clause-ok
returns-clause-ok g c =
    let moved : MovesBy (given_by c.match-client.answer) (taken_by c.match-client.answer) c.args.seat.now.held c.match-client.seat.held =
    elim c.match-client.branch [
      | in-None w ↦ rw (w.answer-is, w.seat-is) w.ask_first-answer.ensures.shares
      | in-Some+in_ok-count-in-Some+else-count-gt0 w ↦
          let n = w.in_ok-count-in-Some.ensures.none (omega (arith, w.if-count-gt0.false)) in
          let m = rw n.2 at w.ask_alone-answer.ensures.shares in
          rw (w.answer-is, w.seat-is) m
    ] in
    let s : c.match-client.session ≡ c.args.session.now =
    elim c.match-client.branch [
      | in-None w ↦ w.session-is
      | in-Some+in_ok-count-in-Some+else-count-gt0 w ↦
          w.session-is ∙ (w.in_ok-count-in-Some.ensures.none (omega (arith, w.if-count-gt0.false))).0
    ] in
    let a : c.match-client.answers.items ≡ c.args.answers.now.items =
    elim c.match-client.branch [
      | in-None w ↦ ap (λ (v : Vec Answer Global). v.items) w.answers-is ∙ c.try_reserve.ensures.items
      | in-Some+in_ok-count-in-Some+else-count-gt0 w ↦
          ap (λ (v : Vec Answer Global). v.items) w.answers-is ∙ (w.in_ok-count-in-Some.ensures.none (omega (arith, w.if-count-gt0.false))).1 ∙ c.try_reserve.ensures.items
    ] in
    let added = rw s at c.tell.ensures.session in
    one_asked c.args.requests.now _ c.match-client.answer _ _ _ _ _ _ c.requires.some (ap (λ (x : SessionState). x.number) added) (ap (λ (x : SessionState). x.pairs) added) (rw a at c.tell.ensures.answers) moved

pub returns-then-is_err-clause-leads : goal.returns-then-is_err-clause-leads
returns-then-is_err-clause-leads g c = goes_nowhere _ c.args.session.now _ _ _ _ _ _ refl refl (same_state _)

pub returns-in_err-count-in-Some-clause-leads : goal.returns-in_err-count-in-Some-clause-leads
returns-in_err-count-in-Some-clause-leads g c =
    let n = c.in_err-count-in-Some.ensures.err in
    rw c.ask_at_room.ensures.calls
    (goes_nowhere _ c.args.session.now c.ask_at_room.new.session c.args.seat.now c.ask_at_room.new.seat _ _ _ n.1 n.3 n.4)

pub returns-clause-leads : goal.returns-clause-leads
returns-clause-leads g c =
    let added = ap (λ (x : SessionState). x.pairs) c.tell.ensures.session in
    elim c.match-client.branch [
      | in-None w ↦
          let more = rw (w.session-is, w.answer-is) at added in
          rw (w.keeper-is, w.seat-is, w.sink-is)
          (first_goes _ _ c.args.session.now c.tell.new.session _ w.ask_first-answer.result c.args.seat.now w.ask_first-answer.new.seat _ _ _
          c.requires.number (sym c.client-client.ensures.value ∙ w.in-None.is) more
          (record { worker = ap (λ (x : SeatState). x.worker) w.ask_first-answer.ensures.seat; shares = w.ask_first-answer.ensures.shares })
          w.ask_first-answer.ensures.does)
      | in-Some+in_ok-count-in-Some+else-count-gt0 w ↦
          let n = w.in_ok-count-in-Some.ensures.none (omega (arith, w.if-count-gt0.false)) in
          let more = rw (w.session-is, n.0, w.answer-is) at added in
          rw (w.keeper-is, w.seat-is, w.sink-is)
          (alone_goes _ _ _ _ w.in-Some.id w.listed.result c.args.session.now c.tell.new.session _ w.ask_alone-answer.result c.args.seat.now w.ask_at_room.new.seat w.ask_alone-answer.new.seat _ _ _ _ _
          (ap (λ (i : Identity). i.strict) w.ask_at_room.ensures.same) (ap (λ (i : Identity). i.number) w.ask_at_room.ensures.same) n.2 n.3
          c.requires.number (sym c.client-client.ensures.value ∙ w.in-Some.is) (sym (w.listed.ensures.value ∙ ap (λ (x : SessionState). x.listed) n.0)) more
          (record { worker = w.ask_alone-answer.ensures.place.worker; shares = w.ask_alone-answer.ensures.shares })
          (rw w.ask_at_room.ensures.calls at w.ask_alone-answer.ensures.does))
    ]
