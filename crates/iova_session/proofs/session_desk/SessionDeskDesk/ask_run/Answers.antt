use Rattle.std.proofs.Common.{ap}
use Rattle.iova_keep.specs.Views.{Identity}
use Rattle.iova_session.proofs.ToldPairs.{moved_either}
use Rattle.iova_session.proofs.Leads.{leads_on}
use Rattle.iova_session.proofs.session_desk.SessionDeskDesk.ask_run.Goals as goal

pub invariant_of-self-clause-shares : goal.invariant_of-self-clause-shares
invariant_of-self-clause-shares g c =
    moved_either c.ask_front.result _ _ _ _ _ _ c.args.self.now.access.seat.now c.ask_front.new.seat c.args.self.now.shares c.ask_front.ensures.ok c.ask_front.ensures.err

pub invariant_of-self-clause-leads : goal.invariant_of-self-clause-leads
invariant_of-self-clause-leads g c =
    leads_on g.O.SessionStart.identity.strict (g.K.Keep.identity c.args.self.now.access.keeper.now).strict g.O.SessionStart.identity.number c.args.self.now.session c.ask_front.new.session
    g.O.SessionStart.seat c.args.self.now.access.seat.now c.ask_front.new.seat
    g.O.SessionStart.calls (g.D.Sink.calls c.args.self.now.access.sink.now) (g.D.Sink.calls c.ask_front.new.sink)
    g.O.SessionStart.domain (g.K.Keep.domain c.args.self.now.access.keeper.now) (g.K.Keep.domain c.ask_front.new.keeper)
    (ap (λ (i : Identity). i.strict) c.args.self.now.same) c.args.self.now.number c.ask_front.ensures.after c.args.self.now.leads c.ask_front.ensures.leads
