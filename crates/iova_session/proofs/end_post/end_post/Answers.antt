use Rattle.std.proofs.Common.{refl}
use Rattle.iova_session.proofs.EndedPosts.{ended_with_round}
use Rattle.iova_session.proofs.end_post.end_post.Goals as goal

pub returns-clause-domain : goal.returns-clause-domain
returns-clause-domain g c =
    let round = rw c.retry-left.ensures.same at c.make_round.ensures.domain in
    ended_with_round _ _ _ _ _ _ _ _ _ _ _ _ _ _ refl c.retry-left.ensures.domain round
