use Rattle.std.proofs.Common.{ap, vec_capacity}
use Rattle.iovad.proofs.Answered.{each_none, each_more}
use Rattle.iovad.proofs.daemon.+end_each.Goals as goal

pub returns-in_default-clause-each : goal.returns-in_default-clause-each
returns-in_default-clause-each g t c = each_none (λ p. p.seat) (λ p. p.waiting.items) (λ p. vec_capacity p.ranges) c.args.stops _ _ _ c.args.posts.now c.in_default.ensures.cases

pub returns-clause-each : goal.returns-clause-each
returns-clause-each g t c =
    each_more (λ p. p.seat) (λ p. p.waiting.items) (λ p. vec_capacity p.ranges) c.args.stops _ _ c.in-Some.post.now c.end_post-left.new.post c.args.posts.now c.in-Some.more.now
    c.end_each.new.posts _ _ _ _ _ _ c.in-Some.ensures.cases.0 (ap (λ i. i.number) c.end_post-left.ensures.same) c.end_post-left.ensures.domain c.end_each.ensures.each
