use Rattle.std.proofs.Common.{[], ap, sym, arith, ◌∙◌, None}
use Rattle.iova_keep.specs.Views.{Identity}
use Rattle.iova_session.specs.Desks.{client_after}
use Rattle.iova_session.proofs.EndedClients.{ended_opened, none_opened, nothing_served, nothing_answered, nothing_ended, none_taken, none_sent}
use Rattle.iova_session.proofs.Others.{nothing_left, opened_keeps, unopened_keeps}
use Rattle.iova_session.proofs.Kept.{keeps_others}
use Rattle.iova_session.proofs.Leads.{nothing_leads, unopened_leads, session_leads}
use Rattle.iova_session.proofs.run.run_session_within.Goals as goal

pub returns-then-not-take_room-clause-session : goal.returns-then-not-take_room-clause-session
returns-then-not-take_room-clause-session g c = record {
  pairs = [];
  served = record { taken = []; written = []; count = 0; consumed = none_taken _; appended = none_sent _; counted = omega arith; served = nothing_served _ _ };
  answers = nothing_answered _;
  ended = rw c.take_room.ensures.waiting (nothing_ended _ _);
  others = nothing_left _;
  leads = rw c.take_room.ensures.waiting (nothing_leads _ _ _ _ _ _);
}

pub returns-in-None-clause-session : goal.returns-in-None-clause-session
returns-in-None-clause-session g c =
    let h = c.serve_at-end.ensures.session in
    record {
      pairs = h.0;
      served = h.1;
      answers = h.2;
      ended = rw c.take_room.ensures.waiting (none_opened _ h.0 c.serve_at-end.result.1 _ _ _ h.3 c.in-None.is h.2 h.4);
      others = unopened_keeps (client_after None h.0) _ _ (sym h.3 ∙ c.in-None.is) (keeps_others c.others_keep_their_holdings.ensures _ _ h.0 _ _ _ _ _ _ h.2 h.5);
      leads = rw c.take_room.ensures.waiting (unopened_leads _ _ h.0 _ _ _ _ _ _ _ (sym h.3 ∙ c.in-None.is) h.5);
    }

pub returns-in-Some-clause-session : goal.returns-in-Some-clause-session
returns-in-Some-clause-session g c =
    let h = c.serve_at-end.ensures.session in
    let ended = rw (c.shares_of-before.ensures, c.take_room.ensures.waiting) at c.end_opened-client.ensures.ended in
    let does = rw (c.shares_of-before.ensures, c.take_room.ensures.waiting) at c.end_opened-client.ensures.does in
    record {
      pairs = h.0;
      served = h.1;
      answers = h.2;
      ended = ended_opened c.in-Some.id h.0 c.serve_at-end.result.1 _ _ _ _ _ _ h.3 c.in-Some.is h.4 ended;
      others = opened_keeps (client_after None h.0) c.end_opened-client.result _ _ _ c.in-Some.id (sym h.3 ∙ c.in-Some.is) (keeps_others c.others_keep_their_holdings.ensures _ _ h.0 _ _ _ _ _ _ h.2 h.5) c.end_opened-client.ensures.domain;
      leads = session_leads _ _ _ c.in-Some.id h.0 c.end_opened-client.result _ _ _ _ _ _ _ _ _ _ _ (sym h.3 ∙ c.in-Some.is) (ap (λ (i : Identity). i.number) c.serve_at-end.ensures.same) h.5 does;
    }
