-- How a session leads a domain that is known, request by request.
use Rattle.std.specs.Prelude.{ℕ, ◌≡◌, ◌≢◌, ◌+◌, ◌⊎◌, Bool, List, [], ◌∷◌, ◌++◌, Option, Some, None, Result, Ok, Err}
use Rattle.iova_range.specs.declared.refusal.Refusal.{Refusal}
use Rattle.iova_range.specs.declared.refusal.Refusal.TheVariants as refusal
use Rattle.iova_range.specs.Frames.{Frames}
use Rattle.iova_model.specs.declared.totals.Totals.{Totals}
use Rattle.iova_model.specs.State.{State}
use Rattle.iova_sink.specs.Calls.{Call}
use Rattle.iova_keep.specs.declared.ending.Ending.{Ending}
use Rattle.iova_keep.specs.Views.{SeatState, stat_of}
use Rattle.iova_keep.specs.Answers.{Opens, Allocs}
use Rattle.iova_proto.specs.declared.answer.Answer.{Answer}
use Rattle.iova_proto.specs.declared.answer.Answer.TheVariants as answer
use Rattle.iova_proto.specs.declared.request.Request.{Request}
use Rattle.iova_proto.specs.declared.request.Request.TheVariants as request
use Rattle.iova_session.specs.declared.leaving.Leaving.{Leaving}
use Rattle.iova_session.specs.Leaving.{Departs, still_waits}
use Rattle.iova_session.specs.Posts.{TellsFitting, kept_if}
use Rattle.iova_session.specs.Pairs.{Pair}
use Rattle.iova_session.specs.Desks.{MovesBy, SessionState, given_by, taken_by, next_client, count_listed, client_after}
use Rattle.iova_session.specs.Domains.{Lists, FreesRange, FlushesAndDrains}

-- how things stand at one moment of a session: its seat, the calls of its sink, and the domain
pub record Moment : Type 0 where
  pub seat : SeatState
  pub calls : List Call
  pub domain : State

abbrev pub moment : SeatState → List Call → State → Moment
moment seat calls s = record { seat = seat; calls = calls; domain = s }

abbrev pub IsSame : State → State → Type 0
IsSame s t = t ≡ s

-- what a hello is answered, by the result of its open
abbrev pub open_answer : Result ℕ Refusal → Answer
open_answer (Ok id) = answer.Opened id
open_answer (Err e) = answer.Refused e

-- what a request for frames is answered, by the result of its alloc
abbrev pub alloc_answer : Result Frames Refusal → Answer
alloc_answer (Ok r) = answer.Given r
alloc_answer (Err e) = answer.Refused e

-- A hello opens a client of worker w, and none where it names another domain.
abbrev pub Greets : ℕ → ℕ → ℕ → Bool → Answer → State → State → Type 0
Greets number w domain sac a s t =
    ((domain ≢ number) × (a ≡ answer.Refused refusal.NoDomain) × (t ≡ s))
    ⊎ ((domain ≡ number) × ((result : Result ℕ Refusal) × Opens w sac result s t
    × (a ≡ open_answer result)))

-- What a request does without a client, in a domain of this number, at a seat of worker w.
abbrev pub FirstDoes : ℕ → ℕ → Request → Answer → State → State → Type 0
FirstDoes number w (request.Hello domain sac) a s t = Greets number w domain sac a s t
FirstDoes number w (request.Alloc frames limit) a s t =
    (a ≡ answer.Refused refusal.NoClient) × (t ≡ s)
FirstDoes number w (request.Free lo) a s t = (a ≡ answer.Refused refusal.NoClient) × (t ≡ s)
FirstDoes number w request.List a s t = (a ≡ answer.Refused refusal.NoClient) × (t ≡ s)
FirstDoes number w request.Flush a s t = (a ≡ answer.Refused refusal.NoClient) × (t ≡ s)
FirstDoes number w request.Stat a s t = (a ≡ answer.Refused refusal.NoClient) × (t ≡ s)
FirstDoes number w request.Bye a s t = (a ≡ answer.Bye) × (t ≡ s)

-- What a request does with a client to which so many ranges were listed: what its call of the lock
-- does, which it is answered by, between these calls of the sink.
abbrev pub ClientDoes : Bool → ℕ → SeatState → ℕ → ℕ → Request → Answer → List Call → List Call
    → State → State
    → Type 0
ClientDoes strict number seat id listed (request.Alloc frames limit) a before now s t =
    (result : Result Frames Refusal) × Allocs seat.worker id frames limit result s t
    × (a ≡ alloc_answer result)
    × (now ≡ before)
ClientDoes strict number seat id listed (request.Free lo) a before now s t =
    FreesRange strict seat id lo a number before now s t
ClientDoes strict number seat id listed request.List a before now s t =
    Lists seat.worker id listed a s × (now ≡ before) × (t ≡ s)
ClientDoes strict number seat id listed request.Flush a before now s t =
    FlushesAndDrains seat.worker a number before now s t
ClientDoes strict number seat id listed request.Stat a before now s t =
    (a ≡ answer.Stat (stat_of s)) × (now ≡ before) × (t ≡ s)
ClientDoes strict number seat id listed (request.Hello domain sac) a before now s t =
    (a ≡ answer.Refused refusal.Twice) × (now ≡ before) × (t ≡ s)
ClientDoes strict number seat id listed request.Bye a before now s t =
    (a ≡ answer.Bye) × (now ≡ before) × (t ≡ s)

-- One request with its answer leads from a to b, by the client so far and the ranges listed so far.
abbrev pub PairDoes : Bool → ℕ → Option ℕ → ℕ → Pair → Moment → Moment → Type 0
PairDoes strict number None listed p a b =
    FirstDoes number a.seat.worker p.request p.answer a.domain b.domain × (b.calls ≡ a.calls)
PairDoes strict number (Some id) listed p a b =
    ClientDoes strict number a.seat id listed p.request p.answer a.calls b.calls a.domain b.domain

-- An answer moves the shares of the session's seat, and leaves its worker.
pub record MovesSeat (a : Answer) (old new : SeatState) : Type 0 where
  pub worker : new.worker ≡ old.worker
  pub shares : MovesBy (given_by a) (taken_by a) old.held new.held

-- All of these requests with their answers lead from a to b, in their order.
unfoldable pub PairsLead : Bool → ℕ → Option ℕ → ℕ → List Pair → Moment → Moment → Type 0
PairsLead strict number client listed [] a b = b ≡ a
PairsLead strict number client listed (p ∷ ps) a b =
    (mid : Moment) × PairDoes strict number client listed p a mid
    × MovesSeat p.answer a.seat mid.seat
    × PairsLead strict number (next_client client p.answer) (listed + count_listed p.answer) ps mid
    b

-- A session's pairs from its first request on: from one seat to another, between these calls of the
-- sink.
abbrev pub LeadsFrom : Bool → ℕ → List Pair → SeatState → SeatState → List Call → List Call → State
    → State → Type 0
LeadsFrom strict number ps old new before now s t =
    PairsLead strict number None 0 ps (moment old before s) (moment new now t)

-- A session goes on by some pairs, which lead so.
abbrev pub GoesOn : Bool → SessionState → SessionState → SeatState → SeatState → List Call
    → List Call → State → State
    → Type 0
GoesOn strict was now old new before calls s t =
    (ps : List Pair) × (now.pairs ≡ was.pairs ++ ps)
    × PairsLead strict was.number was.client was.listed ps (moment old before s)
    (moment new calls t)

-- The client that a session opened leaves, of whose end this is reported, by what the seat's shares
-- are to come back to: it is reported where they fit it, and the client is the last of those that
-- wait exactly where it waits. Where none was opened, nothing is done.
abbrev pub EndDoes : ℕ → Option ℕ → Option Ending → Option Totals → List ℕ → List ℕ → Moment
    → Moment → Type 0
EndDoes number None told back was now a b = (told ≡ None) × (now ≡ was) × (b ≡ a)
EndDoes number (Some id) told back was now a b =
    (l : Leaving) × TellsFitting told l.ended back b.seat.held
    × (now ≡ was ++ kept_if (still_waits l.ended) id)
    × Departs a.seat b.seat.held id l number a.calls b.calls a.domain b.domain

-- A whole session: its pairs lead from where it began to where its client is ended, and that end
-- leads on, with the clients that wait before it and after it.
pub record SessionLeads (strict : Bool) (number : ℕ) (ps : List Pair) (told : Option Ending)
    (old new : SeatState) (was waiting : List ℕ)
    (before now : List Call) (s t : State) : Type 0 where
  pub here : Moment
  pub asked : PairsLead strict number None 0 ps (moment old before s) here
  pub ended : EndDoes number (client_after None ps) told (Some old.held) was waiting here
      (moment new now t)
