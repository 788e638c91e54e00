-- A session at a post, from its first byte to the end of its client.
use Rattle.std.specs.Prelude.{ℕ, ◌≡◌, Bool, List, Option, None}
use Rattle.iova_model.specs.State.{State}
use Rattle.iova_sink.specs.Calls.{Call}
use Rattle.iova_keep.specs.Views.{SeatState, WhereKnown}
use Rattle.iova_session.specs.declared.end.End.{End}
use Rattle.iova_session.specs.declared.run.SessionEnd.{SessionEnd}
use Rattle.iova_session.specs.declared.session_limits.SessionLimits.{SessionLimits}
use Rattle.iova_session.specs.Desks.{AreAnswers, MovesBy, client_after, given_in, taken_in}
use Rattle.iova_session.specs.Domains.{LeavesOthers}
use Rattle.iova_session.specs.Leading.{LeadsFrom, SessionLeads}
use Rattle.iova_session.specs.Pairs.{Pair}
use Rattle.iova_session.specs.Posts.{EndsClient}
use Rattle.iova_session.specs.Sessions.{ServesOver}

-- A session over a link within these limits, which ended so and opened this client, before that one
-- is ended: its requests with their answers have led from one seat to the other and, where it is
-- known, from one domain to the other, between these calls of the sink.
abbrev pub ServesAtSeat : {L : Type 0} → (left sent : L → Option (List ℕ)) → (reads : L → ℕ)
    → SessionLimits → (strict : Bool) → (number : ℕ) → (old new : L) → End → (client : Option ℕ)
    → (seat after : SeatState) → (before now : List Call) → (s t : Option State) → Type 0
ServesAtSeat left sent reads limits strict number old new end client seat after before now s t =
    (ps : List Pair) × ServesOver left sent reads limits old new ps end
    × AreAnswers number None 0 ps
    × (client ≡ client_after None ps)
    × MovesBy (given_in ps) (taken_in ps) seat.held after.held
    × ∥ WhereKnown s t (LeadsFrom strict number ps seat after before now) ∥₁

-- how things stand between two sessions: the post's seat, its clients that wait, the calls of the
-- sink, and the domain where it is known
pub record Between : Type 0 where
  pub seat : SeatState
  pub waiting : List ℕ
  pub calls : List Call
  pub domain : Option State

abbrev pub between : SeatState → List ℕ → List Call → Option State → Between
between seat waiting calls domain =
    record { seat = seat; waiting = waiting; calls = calls; domain = domain }

-- A session over a link within these limits, which ended so: it leads from a to b.
pub record RunsSession {L : Type 0} (left sent : L → Option (List ℕ)) (reads : L → ℕ)
    (limits : SessionLimits) (strict : Bool) (number : ℕ) (old new : L) (told : SessionEnd)
    (a b : Between) : Type 0 where
  pub pairs : List Pair
  pub served : ServesOver left sent reads limits old new pairs told.end
  pub answers : AreAnswers number None 0 pairs
  pub ended : EndsClient pairs told.client a.seat.held b.seat.held a.waiting b.waiting
  pub others : WhereKnown a.domain b.domain (LeavesOthers (client_after None pairs) told.client)
  pub leads : ∥ WhereKnown a.domain b.domain
      (SessionLeads strict number pairs told.client a.seat b.seat a.waiting b.waiting a.calls
      b.calls) ∥₁
