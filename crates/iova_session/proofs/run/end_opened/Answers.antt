use Rattle.iova_session.proofs.Others.{end_keeps}
use Rattle.iova_session.proofs.Leads.{end_does}
use Rattle.iova_session.proofs.run.end_opened.Goals as goal

pub returns-clause-domain : goal.returns-clause-domain
returns-clause-domain g c =
    let tells = rw c.shares_of.ensures at c.told_of.ensures in
    end_keeps c.others_keep_their_holdings.ensures c.steps_keep_validity.ensures c.args.post.now.seat _ c.args.id c.told_of.result c.leave-left.result c.args.back _ _ _ _ _ _ c.domain_is_kept.ensures tells c.leave-left.ensures.domain

pub returns-clause-does : goal.returns-clause-does
returns-clause-does g c =
    let tells = rw c.shares_of.ensures at c.told_of.ensures in
    let listed = c.list_waiting.ensures in
    end_does _ c.args.id c.told_of.result c.leave-left.result c.args.back _ _ c.args.post.now.seat c.leave-left.new.seat _ _ _ _ tells listed c.leave-left.ensures.domain

pub returns-clause-ended : goal.returns-clause-ended
returns-clause-ended g c =
    let tells = rw c.shares_of.ensures at c.told_of.ensures in
    let listed = c.list_waiting.ensures in
    (c.leave-left.result.ended, c.leave-left.ensures.shares, tells, listed)
