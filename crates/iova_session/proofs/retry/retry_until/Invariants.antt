use Rattle.std.proofs.Common.{◌≡◌, ◌≢◌, ◌≤◌, ◌++◌, true, vec_capacity, ℕ, List, Option, take, drop}
use Rattle.iova_model.specs.State.{State}
use Rattle.iova_range.specs.declared.limits.TheConstants.{MAX_HOLDINGS}
use Rattle.iova_sink.specs.Calls.{Call}
use Rattle.iova_keep.specs.Views.{SeatState, WhereKnown, KeepsPlace}
use Rattle.iova_session.specs.Posts.{Retries}
use Rattle.iova_session.proofs.Retrying.{Tried}
use Rattle.iova_session.proofs.retry.retry_until.Given as goal

abbrev pub invariant-trying : goal.invariant-trying
invariant-trying g l = record {
  tried : Tried l.initial.post.waiting.items l.post.waiting.items l.at l.left;
  same : g.K.Keep.identity l.keeper ≡ g.K.Keep.identity l.initial.keeper;
  place : KeepsPlace l.initial.post.seat l.post.seat (g.D.Sink.calls l.initial.sink) (g.D.Sink.calls l.sink);
  room : l.over ≢ true → MAX_HOLDINGS ≤ vec_capacity l.post.ranges;
  goes_on : (more : List ℕ) (left : SeatState) (now : List Call) (o : Option State)
      → WhereKnown (g.K.Keep.domain l.keeper) o (Retries l.over (g.K.Keep.identity l.initial.keeper).number (drop l.at l.initial.post.waiting.items) more l.post.seat left (g.D.Sink.calls l.sink) now)
      → WhereKnown (g.K.Keep.domain l.initial.keeper) o (Retries l.initial.over (g.K.Keep.identity l.initial.keeper).number l.initial.post.waiting.items (take l.left l.post.waiting.items ++ more) l.initial.post.seat left (g.D.Sink.calls l.initial.sink) now);
}
