use Rattle.std.proofs.Common.{ap, subst}
use Rattle.iova_keep.specs.Views.{SeatState}
use Rattle.iova_session.specs.Desks.{SessionState, MovesBy, given_in, taken_in}
use Rattle.iova_session.proofs.ToldPairs.{moved_none}
use Rattle.iova_session.proofs.Leads.{leads_yet}
use Rattle.iova_session.proofs.run.serve_with.Goals as goal

pub invariant_of-desk-clause-shares : goal.invariant_of-desk-clause-shares
invariant_of-desk-clause-shares g c =
    let none = ap (λ (s : SessionState). s.pairs) c.new-session.ensures in
    subst (λ (x : SeatState). MovesBy (given_in c.new-session.result.pairs) (taken_in c.new-session.result.pairs) x.held c.args.access.seat.now.held) c.requires.seat
    (moved_none c.new-session.result c.args.access.seat.now.held none)

pub invariant_of-desk-clause-leads : goal.invariant_of-desk-clause-leads
invariant_of-desk-clause-leads g c =
    leads_yet g.O.SessionStart.identity.strict g.O.SessionStart.identity.number c.new-session.result.pairs g.O.SessionStart.seat c.args.access.seat.now g.O.SessionStart.calls (g.D.Sink.calls c.args.access.sink.now)
    g.O.SessionStart.domain (g.K.Keep.domain c.args.access.keeper.now) (ap (λ (s : SessionState). s.pairs) c.new-session.ensures) c.requires.domain c.requires.seat c.requires.calls
