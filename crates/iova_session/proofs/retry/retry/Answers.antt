use Rattle.std.proofs.Common.{◌≡◌, [], arith}
use Rattle.std.proofs.lemmas.Grind.{common_steps}
use Rattle.iova_session.proofs.Retrying.{tried_with, tried_none}
use Rattle.iova_session.proofs.Emptied.{ends_where_good}
use Rattle.iova_session.proofs.retry.retry.Goals as goal

pub returns-then-is_empty-clause-gone : goal.returns-then-is_empty-clause-gone
returns-then-is_empty-clause-gone g c =
    let none : c.args.post.now.waiting.items ≡ [] = let t = c.if-is_empty.true in let e = c.is_empty.ensures in grind (arith, common_steps) in
    ends_where_good c.steps_keep_validity.ensures (g.K.Keep.identity c.args.keeper.now).number _ _ _ _ _ _ _ _ _ c.domain_is_kept.ensures (tried_none _ _ c.args.post.now.waiting.items c.args.post.now.seat _ _ none)

pub returns-clause-gone : goal.returns-clause-gone
returns-clause-gone g c =
    let room = c.has_ranges-over.ensures.there in
    ends_where_good c.steps_keep_validity.ensures (g.K.Keep.identity c.args.keeper.now).number _ _ _ _ _ _ _ _ _ c.domain_is_kept.ensures
    (tried_with _ _ _ _ _ _ _ _ _ _ _ (λ e. let goes = room in grind (arith, common_steps)) c.retry_until.ensures.domain)
