use Rattle.std.proofs.Common.{◌≡◌, ◌+◌, ◌≤◌, map, vec_len, vec_capacity}
use Rattle.std.specs.Vec.Iter.{into_iter_len}
use Rattle.iova_session.proofs.post.seats_of.Given as goal

abbrev pub invariant-loop-post : goal.invariant-loop-post
invariant-loop-post g l =
    (l.seats.items ≡ map (λ p. p.seat) l.yielded)
    × (vec_len l.seats + into_iter_len l.post-iterator ≡ vec_len l.fn.posts)
    × (vec_len l.fn.posts ≤ vec_capacity l.seats)
