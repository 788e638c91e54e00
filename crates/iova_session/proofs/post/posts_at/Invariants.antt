use Rattle.std.proofs.Common.{◌≡◌, ◌+◌, ◌≤◌, [], map, vec_len, vec_capacity}
use Rattle.std.specs.Vec.Iter.{into_iter_len}
use Rattle.iova_session.proofs.post.posts_at.Given as goal

abbrev pub invariant-loop-seat : goal.invariant-loop-seat
invariant-loop-seat g l =
    (map (λ p. p.seat) l.posts.items ≡ l.yielded)
    × (map (λ p. p.waiting.items) l.posts.items ≡ map (λ s. []) l.yielded)
    × (vec_len l.posts + into_iter_len l.seat-iterator ≡ vec_len l.fn.seats)
    × (vec_len l.fn.seats ≤ vec_capacity l.posts)
