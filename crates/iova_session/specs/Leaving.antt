-- How a client leaves whose session is over.
use Rattle.std.specs.Prelude.{ℕ, ◌≡◌, Bool, true, false, List, [], ◌∷◌, length, Result, Ok, Err}
use Rattle.iova_range.specs.declared.refusal.Refusal.{Refusal}
use Rattle.iova_range.specs.Frames.{Frames}
use Rattle.iova_model.specs.declared.totals.Totals.{Totals}
use Rattle.iova_model.specs.Clients.{client_of, holdings_in}
use Rattle.iova_model.specs.State.{State}
use Rattle.iova_sink.specs.declared.sink.SinkFault.{SinkFault}
use Rattle.iova_sink.specs.declared.sink.SinkFault.TheVariants as fault
use Rattle.iova_sink.specs.Calls.{Call, with_gone}
use Rattle.iova_keep.specs.Answers.{DoesEndClient}
use Rattle.iova_keep.specs.Views.{SeatState}
use Rattle.iova_keep.specs.declared.ending.Ending.{Ending}
use Rattle.iova_keep.specs.declared.ending.Ending.TheVariants as ending
use Rattle.iova_keep.specs.declared.ending.Why.TheVariants as why
use Rattle.iova_session.specs.declared.leaving.Leaving.{Leaving}
use Rattle.iova_session.specs.declared.leaving.Attempt.{Attempt}

-- What a sink is notified of before a client's end: nothing where it holds nothing; else that it is
-- gone, which has these ranges. What was answered, between these calls of the sink.
abbrev pub IsTold : ℕ → ℕ → List Frames → Result Unit SinkFault → List Call → List Call → Type 0
IsTold number id [] answer before now = (answer ≡ Ok tt) × (now ≡ before)
IsTold number id (r ∷ rs) answer before now = now ≡ with_gone before number id (r ∷ rs) answer

-- whether a sink that failed gave no answer
abbrev pub is_silence : SinkFault → Bool
is_silence fault.Refused = false
is_silence fault.Broken = true

-- Then its end follows; or, where that failed, nothing is done, and it waits with all that it
-- holds.
abbrev pub EndsAfter : Result Unit SinkFault → SeatState → Totals → ℕ → List Frames → Leaving → ℕ
    → List Call → List Call → State → State → Type 0
EndsAfter (Ok u) seat left id held l number before now s t =
    (l.silent ≡ false) × DoesEndClient seat left id l.ended number before now s t
EndsAfter (Err e) seat left id held l number before now s t =
    (l.silent ≡ is_silence e) × (l.ended ≡ Ok (ending.Waiting (length held) why.SinkFailed))
    × (left ≡ seat.held) × (now ≡ before) × (t ≡ s)

-- A client leaves, from s to t: before any range of it is queued, the sink has answered well that
-- it is gone, which has all the ranges that it holds.
pub record Departs (seat : SeatState) (left : Totals) (id : ℕ) (l : Leaving) (number : ℕ)
    (before now : List Call) (s t : State) : Type 0 where
  pub answer : Result Unit SinkFault
  pub calls : List Call
  pub told : IsTold number id (holdings_in (client_of seat.worker id s.clients)) answer before calls
  pub ended : EndsAfter answer seat left id (holdings_in (client_of seat.worker id s.clients)) l
      number calls now s t

-- a client is left after its end was tried
abbrev pub still_waits : Result Ending Refusal → Bool
still_waits (Ok (ending.Ended queued)) = false
still_waits (Ok (ending.Waiting left why)) = true
still_waits (Err e) = false

-- A client that waits is tried again, where the round of tries isn't over; a sink that gives no
-- answer ends the round.
abbrev pub Attempts : Bool → SeatState → SeatState → ℕ → Attempt → ℕ → List Call → List Call → State
    → State → Type 0
Attempts true seat left id a number before now s t =
    (a.kept ≡ true) × (a.over ≡ true) × (left ≡ seat) × (now ≡ before) × (t ≡ s)
Attempts false seat left id a number before now s t =
    (l : Leaving) × Departs seat left.held id l number before now s t
    × (a.kept ≡ still_waits l.ended) × (a.over ≡ l.silent)
