use Rattle.std.proofs.Common.{◌+◌, ◌∙◌, map, sym, ap, arith}
use Rattle.iova_lock.specs.Books.{tally_parts, tally_good}
use Rattle.iovad.specs.Ends.{workers_of}
use Rattle.iovad.proofs.Gathering.{all_there, workers_at, given_back}
use Rattle.iovad.proofs.daemon.end_service.Goals as goal

-- the seats are those of all workers
pub into_counted-requires-clause-all : goal.into_counted-requires-clause-all
into_counted-requires-clause-all g c =
    let lent = c.deref_mut.ensures in
    let ends = c.end_posts.ensures in
    let still = workers_at (λ p. p.seat) c.end_posts.new.posts ∙ ends.workers ∙ sym (workers_at (λ p. p.seat) c.deref_mut.result.now) in
    let back = given_back (λ p. p.seat.worker) _ c.end_posts.new.posts c.deref_mut.result.now _ lent.len still in
    let same = ap workers_of c.seats_of.ensures ∙ ap (λ ps. workers_of (map (λ p. p.seat) ps)) back
    ∙ ends.workers ∙ ap (λ ps. workers_of (map (λ p. p.seat) ps)) lent.value ∙ c.requires.workers in
    all_there c.args.shared.workers c.args.shared.seats c.seats_of.result.items c.requires.enough same

-- and their tallies have all parts but the flusher's
pub into_counted-requires-clause-parts : goal.into_counted-requires-clause-parts
into_counted-requires-clause-parts g c =
    let lent = c.deref_mut.ensures in
    let ends = c.end_posts.ensures in
    let still = workers_at (λ p. p.seat) c.end_posts.new.posts ∙ ends.workers ∙ sym (workers_at (λ p. p.seat) c.deref_mut.result.now) in
    let back = given_back (λ p. p.seat.worker) _ c.end_posts.new.posts c.deref_mut.result.now _ lent.len still in
    let same = ap tally_parts c.seats_of.ensures ∙ ap (λ ps. tally_parts (map (λ p. p.seat) ps)) back
    ∙ ends.parts ∙ ap (λ ps. tally_parts (map (λ p. p.seat) ps)) lent.value in
    ap (λ n. n + c.args.served.tally.parts) same ∙ c.requires.parts

pub returns-clause-ended : goal.returns-clause-ended
returns-clause-ended g c =
    let lent = c.deref_mut.ensures in
    let ends = c.end_posts.ensures in
    let still = workers_at (λ p. p.seat) c.end_posts.new.posts ∙ ends.workers ∙ sym (workers_at (λ p. p.seat) c.deref_mut.result.now) in
    let back = given_back (λ p. p.seat.worker) _ c.end_posts.new.posts c.deref_mut.result.now _ lent.len still in
    let after = ap tally_good c.seats_of.ensures ∙ ap (λ ps. tally_good (map (λ p. p.seat) ps)) back in
    let before = ap (λ ps. tally_good (map (λ p. p.seat) ps)) lent.value in
    omega (arith, after, before, ends.good, c.into_counted.ensures.counted.ended)
