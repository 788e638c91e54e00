-- What each call does to a domain that is known, from s to t.
use Rattle.std.specs.Prelude.{ℕ, ◌≡◌, ◌+◌, ◌++◌, Bool, List, Option, Result, Err, MatchOption, MatchResult}
use Rattle.iova_range.specs.declared.refusal.Refusal.{Refusal}
use Rattle.iova_range.specs.declared.refusal.Refusal.TheVariants as refusal
use Rattle.iova_range.specs.Frames.{Frames}
use Rattle.iova_model.specs.declared.step.Step.{Step}
use Rattle.iova_model.specs.declared.step.Step.TheVariants as step
use Rattle.iova_model.specs.declared.step.Reply.{Reply}
use Rattle.iova_model.specs.declared.totals.Totals.{Totals}
use Rattle.iova_model.specs.Clients.{client_of}
use Rattle.iova_model.specs.State.{State, counts}
use Rattle.iova_model.specs.Effects.{ended_well}
use Rattle.iova_sink.specs.Calls.{Call}
use Rattle.iova_keep.specs.declared.ending.Ending.{Ending}
use Rattle.iova_keep.specs.Steps.{Takes}
use Rattle.iova_keep.specs.Views.{SeatState, reserved_or, opened_or, given_or, queued_or, left_of}
use Rattle.iova_keep.specs.Events.{CallEvent, sink_calls, Does, UnmapFirst, UnmapAgain, Unmap, Flush, CloseFirst, CloseAgain, CloseRest, EndClient, DrainAll, Timeout}

-- Calls of one hold.

abbrev pub Reserves : ℕ → ℕ → Result Frames Refusal → State → State → Type 0
Reserves lo hi result s t = Takes s (step.Reserve lo hi) (reserved_or result) t

abbrev pub Opens : ℕ → Bool → Result ℕ Refusal → State → State → Type 0
Opens w sac result s t = Takes s (step.Open w sac) (opened_or result) t

abbrev pub Allocs : ℕ → ℕ → ℕ → ℕ → Result Frames Refusal → State → State → Type 0
Allocs w id frames limit result s t = Takes s (step.Alloc w id frames limit) (given_or result) t

abbrev pub DrainsAll : ℕ → Result ℕ Refusal → State → State → Type 0
DrainsAll by result s t = Does (DrainAll s.workers by result) s t

-- a client's holdings are appended, where it is this worker's and memory allows it
abbrev pub ReadsHoldings : ℕ → ℕ → List Frames → List Frames → Result Unit Refusal → State → Type 0
ReadsHoldings w id old new result s =
    MatchOption (client_of w id s.clients) (result ≡ Err refusal.NoClient)
    (λ c. MatchResult result (λ u. new ≡ old ++ c.holdings) (λ e. e ≡ refusal.NoMemory))

-- Single holds of the others.

abbrev pub UnmapsFirst : SeatState → ℕ → ℕ → Option Reply → Option Reply → State → State → Type 0
UnmapsFirst seat id lo o begun s t =
    Does (UnmapFirst (step.Unmap seat.worker id lo) seat.held o begun) s t

abbrev pub UnmapsAgain : SeatState → ℕ → ℕ → ℕ → Bool → Option Reply → State → State → Type 0
UnmapsAgain seat id lo n ok o s t =
    Does (UnmapAgain (step.Unmap seat.worker id lo) seat.held n ok o) s t

abbrev pub Begins : Option Reply → State → State → Type 0
Begins begun s t = MatchOption begun ⊥ (λ b. Takes s step.Begin b t)

abbrev pub Ends : ℕ → Bool → Option Reply → State → State → Type 0
Ends n ok o s t = MatchOption o ⊥ (λ r. Takes s (step.End n ok) r t)

abbrev pub ClosesFirst : SeatState → Totals → ℕ → Option Reply → Option Reply → State → State
    → Type 0
ClosesFirst seat left id o begun s t =
    Does (CloseFirst (step.CloseOne seat.worker id) seat.held left o begun) s t

abbrev pub ClosesAgain : SeatState → Totals → ℕ → ℕ → Bool → Option Reply → Option Reply → State
    → State → Type 0
ClosesAgain seat left id n ok o begun s t =
    Does (CloseAgain (step.CloseOne seat.worker id) n ok seat.held left o begun) s t

-- a tally rises by the flush that the hold's End ended well, where it wasn't refused
abbrev pub RaisesByEnd : ℕ → ℕ → ℕ → Bool → State → State → Type 0
RaisesByEnd old new n ok s t =
    (r : Reply) × (mid : State) × Takes s (step.End n ok) r mid
    × (new ≡ old + ended_well (step.End n ok) r)

-- so many holdings are left to the client
abbrev pub Leaves : ℕ → ℕ → State → State → Type 0
Leaves id left s t = left ≡ left_of id t

-- Calls of several holds, with the calls of the sink between them: the domain's number, and the
-- sink's calls before and after.

abbrev pub UnmapsWith : Step → Totals → Reply → ℕ → List Call → List Call → List CallEvent → Type 0
UnmapsWith st held r number before now es =
    Unmap st held r es × (now ≡ before ++ sink_calls number es)

abbrev pub DoesUnmap : SeatState → ℕ → ℕ → Result Frames Refusal → ℕ → List Call → List Call → State
    → State → Type 0
DoesUnmap seat id lo result number before now s t =
    Does (UnmapsWith (step.Unmap seat.worker id lo) seat.held (queued_or result) number before now)
    s t

abbrev pub FlushesWith : Result ℕ Refusal → ℕ → List Call → List Call → List CallEvent → Type 0
FlushesWith result number before now es = Flush result es × (now ≡ before ++ sink_calls number es)

abbrev pub DoesFlush : Result ℕ Refusal → ℕ → List Call → List Call → State → State → Type 0
DoesFlush result number before now s t = Does (FlushesWith result number before now) s t

abbrev pub RestWith : SeatState → Totals → ℕ → ℕ → Bool → Option Reply → Option Reply → ℕ
    → List Call → List Call → List CallEvent → Type 0
RestWith seat left id n ok o begun number before now es =
    CloseRest (step.CloseOne seat.worker id) n seat.held left ok o begun es
    × (now ≡ before ++ sink_calls number es)

abbrev pub DoesRest : SeatState → Totals → ℕ → ℕ → Bool → Option Reply → Option Reply → ℕ
    → List Call → List Call → State → State → Type 0
DoesRest seat left id n ok o begun number before now s t =
    Does (RestWith seat left id n ok o begun number before now) s t

abbrev pub EndsWith : SeatState → Totals → ℕ → ℕ → Result Ending Refusal → ℕ → List Call → List Call
    → List CallEvent → Type 0
EndsWith seat left id remains result number before now es =
    EndClient (step.CloseOne seat.worker id) seat.held left remains result es
    × (now ≡ before ++ sink_calls number es)

abbrev pub DoesEndClient : SeatState → Totals → ℕ → Result Ending Refusal → ℕ → List Call
    → List Call → State → State → Type 0
DoesEndClient seat left id result number before now s t =
    Does (EndsWith seat left id (left_of id t) result number before now) s t

abbrev pub TimesOutWith : ℕ → ℕ → Result ℕ Refusal → ℕ → List Call → List Call → List CallEvent
    → Type 0
TimesOutWith workers queued result number before now es =
    Timeout workers queued result es × (now ≡ before ++ sink_calls number es)

abbrev pub DoesTimeout : Result ℕ Refusal → ℕ → List Call → List Call → State → State → Type 0
DoesTimeout result number before now s t =
    Does (TimesOutWith s.workers (counts s).ring result number before now) s t
