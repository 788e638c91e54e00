use Rattle.iova_session.proofs.serve.serve.Goals as goal

pub returns-clause-session : goal.returns-clause-session
returns-clause-session g c = rw c.usual.ensures at c.serve_within.ensures.session
