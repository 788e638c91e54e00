-- How a session ends at a post.
use Rattle.std.specs.Prelude.{ℕ, Result, Ok, Err, ◌≡◌, ◌+◌, ◌<◌, ◌⊎◌, List, [], ◌∷◌, ◌++◌, length, Option, Some, None, Bool, true, false}
use Rattle.iova_model.specs.declared.totals.Totals.{Totals}
use Rattle.iova_range.specs.declared.refusal.Refusal.{Refusal}
use Rattle.iova_model.specs.State.{State}
use Rattle.iova_sink.specs.Calls.{Call}
use Rattle.iova_keep.specs.Views.{SeatState, LowersTold}
use Rattle.iova_keep.specs.Answers.{DoesTimeout}
use Rattle.iova_keep.specs.declared.ending.Ending.{Ending}
use Rattle.iova_keep.specs.declared.ending.Ending.TheVariants as ending
use Rattle.iova_range.specs.declared.limits.TheConstants.{MAX_HOLDINGS}
use Rattle.iova_session.specs.declared.leaving.Attempt.{Attempt}
use Rattle.iova_session.specs.Leaving.{Attempts, still_waits}
use Rattle.iova_session.specs.Pairs.{Pair}
use Rattle.iova_session.specs.Desks.{MovesBy, client_after, given_in, taken_in}

-- a client that is left is kept
abbrev pub kept_if : Bool → ℕ → List ℕ
kept_if true id = id ∷ []
kept_if false id = []

-- The shares of a seat fit the end of a client, where it is known what they are to come back to:
-- where it has ended they are that, and where it waits their count is greater by what it has left.
abbrev pub Fits : Option Totals → Totals → Ending → Type 0
Fits None now e = ⊥
Fits (Some back) now (ending.Ended queued) = now ≡ back
Fits (Some back) now (ending.Waiting left why) = now.count ≡ back.count + left

-- The end of a client as it is reported: the end itself, where the shares fit it. Nothing where
-- they don't, or where there was no such client.
abbrev pub TellsFitting : Option Ending → Result Ending Refusal → Option Totals → Totals → Type 0
TellsFitting (Some told) ended back now = (ended ≡ Ok told) × Fits back now told
TellsFitting None (Ok e) back now = Fits back now e → ⊥
TellsFitting None (Err e) back now = Unit {0}

-- What is reported of the end of a client, by the shares from before its session, before that end
-- and after it, and by the clients that wait. The end lowered the shares. The client is the last of
-- those that wait exactly where its end waits, whatever is reported.
abbrev pub EndsFrom : ℕ → Option Ending → Option Totals → Totals → Totals → List ℕ → List ℕ → Type 0
EndsFrom id told back old new was now =
    (ended : Result Ending Refusal) × LowersTold ended old new × TellsFitting told ended back new
    × (now ≡ was ++ kept_if (still_waits ended) id)

-- What is reported of the end of a session's client, by the shares of the seat before the session
-- and after it, and the clients that wait. Where it ended, the shares are as before, and what its
-- end queued is what was given to it and not taken back. Where it waits, the count is greater by
-- what it has left, and it is the last of those that wait. Nothing is reported of a client that was
-- opened only where the shares, which its requests had moved, don't fit its end, or where there was
-- no such client.
abbrev pub EndsClientOf : Option ℕ → List Pair → Option Ending → Totals → Totals → List ℕ → List ℕ
    → Type 0
EndsClientOf None ps told old new was now = (told ≡ None) × (new ≡ old) × (now ≡ was)
EndsClientOf (Some id) ps (Some (ending.Ended queued)) old new was now =
    (new ≡ old) × (queued + length (taken_in ps) ≡ length (given_in ps)) × (now ≡ was)
EndsClientOf (Some id) ps (Some (ending.Waiting left why)) old new was now =
    (new.count ≡ old.count + left) × (now ≡ was ++ id ∷ [])
EndsClientOf (Some id) ps None old new was now =
    (held : Totals) × MovesBy (given_in ps) (taken_in ps) old held
    × EndsFrom id None (Some old) held new was now

-- the client is the one that a hello among the pairs opened
abbrev pub EndsClient : List Pair → Option Ending → Totals → Totals → List ℕ → List ℕ → Type 0
EndsClient ps told old new was now = EndsClientOf (client_after None ps) ps told old new was now

-- some of a list, in its order
abbrev pub IsSublist : List ℕ → List ℕ → Type 0
IsSublist [] ys = Unit {0}
IsSublist (x ∷ xs) [] = ⊥
IsSublist (x ∷ xs) (y ∷ ys) = ((x ≡ y) × IsSublist xs ys) ⊎ IsSublist (x ∷ xs) ys

-- Each of the clients is tried once, in their order, until the round is over, and those that wait
-- still are kept: in a domain of this number, from s to t.
abbrev pub Retries : Bool → ℕ → List ℕ → List ℕ → SeatState → SeatState → List Call → List Call
    → State → State → Type 0
Retries over number [] kept seat left before now s t =
    (kept ≡ []) × (left ≡ seat) × (now ≡ before) × (t ≡ s)
Retries over number (id ∷ ids) kept seat left before now s t =
    (a : Attempt) × (mid : SeatState) × (calls : List Call) × (here : State) × (more : List ℕ)
    × (mid.worker ≡ seat.worker) × Attempts over seat mid id a number before calls s here
    × (kept ≡ kept_if a.kept id ++ more)
    × Retries a.over number ids more mid left calls now here t

-- Each of the clients is tried once, in a round that is over before it begins only where there is
-- no room for the ranges of a client.
abbrev pub RetriesAll : ℕ → ℕ → List ℕ → List ℕ → SeatState → SeatState → List Call → List Call
    → State → State → Type 0
RetriesAll room number ids kept seat left before now s t =
    (over : Bool) × (over ≡ true → room < MAX_HOLDINGS)
    × Retries over number ids kept seat left before now s t

-- a flusher's round, where one is wanted
abbrev pub MakesRound : Bool → ℕ → List Call → List Call → State → State → Type 0
MakesRound false number before now s t = (now ≡ before) × (t ≡ s)
MakesRound true number before now s t =
    (round : Result ℕ Refusal) × DoesTimeout round number before now s t

-- The end of a post's service, in a domain of this number, from s to t: each client that waits is
-- tried once more, and then, where a flush is wanted, what is in a ring is flushed and drained.
-- `held` are the seat's shares then.
abbrev pub EndsPost : Bool → ℕ → ℕ → List ℕ → List ℕ → SeatState → Totals → List Call → List Call
    → State → State → Type 0
EndsPost flushes room number ids kept seat held before now s t =
    (left : SeatState) × (calls : List Call) × (here : State)
    × RetriesAll room number ids kept seat left before calls s here
    × (held ≡ left.held) × MakesRound flushes number calls now here t
