use Rattle.iova_session.proofs.run.run_session.Goals as goal

pub returns-clause-session : goal.returns-clause-session
returns-clause-session g c = rw c.usual.ensures at c.run_session_within.ensures.session
