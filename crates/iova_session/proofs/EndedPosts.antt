-- The end of a post's service: a round of tries, and then a flusher's round.
use Rattle.std.proofs.Common.{ℕ, ◌≡◌, List, Option, Some, None}
use Rattle.std.specs.Prelude.{Bool}
use Rattle.iova_model.specs.declared.totals.Totals.{Totals}
use Rattle.iova_model.specs.State.{State}
use Rattle.iova_sink.specs.Calls.{Call}
use Rattle.iova_keep.specs.Views.{SeatState, WhereKnown}
use Rattle.iova_session.specs.Posts.{RetriesAll, MakesRound, EndsPost}

pub ended_with_round : (flushes : Bool) (room number : ℕ) (ids kept : List ℕ) (seat left : SeatState) (held : Totals)
    (before calls now : List Call) (o p q : Option State) → held ≡ left.held
    → WhereKnown o p (RetriesAll room number ids kept seat left before calls)
    → WhereKnown p q (MakesRound flushes number calls now)
    → WhereKnown o q (EndsPost flushes room number ids kept seat held before now)
ended_with_round flushes room number ids kept seat left held before calls now None p q same x y = tt
ended_with_round flushes room number ids kept seat left held before calls now (Some s) None q same x y = absurd x
ended_with_round flushes room number ids kept seat left held before calls now (Some s) (Some m) None same x y = absurd y
ended_with_round flushes room number ids kept seat left held before calls now (Some s) (Some m) (Some t) same x y =
    (left, calls, m, x, same, y)
