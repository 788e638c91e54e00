use Rattle.std.proofs.Common.{◌≤◌, ◌∙◌, map, sym, ap, subst, arith}
use Rattle.std.proofs.lemmas.List.{length-map}
use Rattle.iova_lock.specs.Books.{tally_parts, tally_good}
use Rattle.iovad.specs.Ends.{workers_of}
use Rattle.iovad.proofs.Answered.{new_parts, none_counted}
use Rattle.iovad.proofs.Gathering.{first_parts, same_length, some_posts, workers_at}
use Rattle.iovad.proofs.daemon.serve_and_end.Goals as goal

-- the posts stand at the new seats
pub serve_sessions-served-requires-clause-some : goal.serve_sessions-served-requires-clause-some
serve_sessions-served-requires-clause-some g c κs within =
    let all = c.requires.posts in
    subst (λ n. 1 ≤ n) (sym c.args.posts.ok.0)
    (some_posts (λ p. p.seat) c.args.shared.workers c.args.shared.seats c.args.posts.items (omega (arith, all.some, all.enough)) all.turn)

pub serve_sessions-served-requires-clause-parts : goal.serve_sessions-served-requires-clause-parts
serve_sessions-served-requires-clause-parts g c κs within =
    first_parts (λ p. p.seat) c.args.shared.workers c.args.shared.seats c.args.posts.items c.requires.posts.turn

-- the same workers have come back
pub end_service-requires-clause-workers : goal.end_service-requires-clause-workers
end_service-requires-clause-workers g c κs within =
    let all = c.in-Ok-served.ensures in
    sym (workers_at (λ p. p.seat) c.in-Ok-served.served.posts.items) ∙ all.posts ∙ workers_at (λ p. p.seat) c.args.posts.items
    ∙ ap workers_of c.requires.posts.turn

pub end_service-requires-clause-parts : goal.end_service-requires-clause-parts
end_service-requires-clause-parts g c κs within =
    c.in-Ok-served.ensures.parts ∙ ap tally_parts c.requires.posts.turn ∙ new_parts c.args.shared.workers c.args.shared.seats ∙ sym c.requires.parts

-- as many posts come back as there were
pub end_service-requires-clause-room : goal.end_service-requires-clause-room
end_service-requires-clause-room g c κs within =
    let now = c.in-Ok-served.served.posts in
    let same = sym (workers_at (λ p. p.seat) now.items) ∙ c.in-Ok-served.ensures.posts ∙ workers_at (λ p. p.seat) c.args.posts.items in
    let long = sym (length-map now.items (λ p. p.seat)) ∙ same_length (map (λ p. p.seat) now.items) (map (λ p. p.seat) c.args.posts.items) same
    ∙ length-map c.args.posts.items (λ p. p.seat) in
    omega (arith, long, now.ok.0, c.args.posts.ok.0, c.in-Ok.ensures.capacity)

-- new seats have counted nothing, so all is counted while they were served and at the end
pub returns-in-Ok-served : goal.returns-in-Ok-served
returns-in-Ok-served g c =
    let none = ap tally_good c.requires.posts.turn ∙ none_counted c.args.shared.workers c.args.shared.seats in
    rw c.end_service.ensures.sinks.0 (rw c.end_service.ensures.sinks.1
    (omega (arith, none, c.in-Ok-served.ensures.within, c.end_service.ensures.ended)))
