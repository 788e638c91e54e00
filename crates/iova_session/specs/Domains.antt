-- What a session leaves of a domain that is known.
use Rattle.std.specs.Prelude.{ℕ, ◌≡◌, ◌≢◌, ◌+◌, ◌<◌, ◌≤◌, ◌⊎◌, Bool, List, length, Option, Some, None, Result, Ok, Err, MatchOption, refl}
use Rattle.std.specs.Coded.{Coded, Coded-set, code_by, coded×, coded_ℕ, coded_list, Π_prop, →_prop, Unit-prop}
use Rattle.iova_range.specs.declared.limits.TheConstants.{MAX_LISTED}
use Rattle.iova_range.specs.declared.refusal.Refusal.{Refusal}
use Rattle.iova_range.specs.declared.refusal.Refusal.TheVariants as refusal
use Rattle.iova_range.specs.Frames.{Frames}
use Rattle.iova_model.specs.Clients.{client_with, client_of}
use Rattle.iova_model.specs.State.{State}
use Rattle.iova_model.specs.Effects.{held_by}
use Rattle.iova_proto.specs.declared.answer.Answer.{Answer}
use Rattle.iova_proto.specs.declared.answer.Answer.TheVariants as answer
use Rattle.iova_keep.specs.declared.ending.Ending.{Ending}
use Rattle.iova_keep.specs.declared.ending.Ending.TheVariants as ending
use Rattle.iova_keep.specs.declared.unmapped.Unmapped.{Unmapped}
use Rattle.iova_keep.specs.Views.{WhereKnown, SeatState, left_of}
use Rattle.iova_keep.specs.Answers.{DoesFlush, DrainsAll}
use Rattle.iova_keep.specs.Releases.{DoesRelease}
use Rattle.iova_sink.specs.Calls.{Call}
use Rattle.iova_session.specs.Desks.{answer_of_release}

-- no client but this one has other holdings than before
abbrev pub KeepsOthers : Option ℕ → State → State → Type 0
KeepsOthers client s t = (id : ℕ) → client ≢ Some id → held_by id t.clients ≡ held_by id s.clients

-- a client that has ended is gone, and of one that waits is counted how many holdings it has left
abbrev pub IsLeft : Option ℕ → Option Ending → State → Type 0
IsLeft (Some id) (Some (ending.Waiting left why)) t = left ≡ left_of id t
IsLeft (Some id) (Some (ending.Ended queued)) t = client_with id t.clients ≡ None
IsLeft (Some id) None t = Unit {0}
IsLeft None told t = Unit {0}

-- what a session leaves, of whose client this is reported
abbrev pub LeavesOthers : Option ℕ → Option Ending → State → State → Type 0
LeavesOthers client told s t = KeepsOthers client s t × IsLeft client told t

-- What a list may be answered where the client has these holdings and so many ranges were listed
-- before: them, or that they pass the limit, or that memory was refused.
abbrev pub IsListOf : List Frames → ℕ → Answer → Type 0
IsListOf held listed (answer.Held ranges) = (ranges ≡ held) × (listed + length held ≤ MAX_LISTED)
IsListOf held listed (answer.Refused e) =
    (e ≡ refusal.NoMemory) ⊎ ((e ≡ refusal.TooMany) × (MAX_LISTED < listed + length held))
IsListOf held listed a = ⊥

-- what a list is answered where the client is looked up in this domain, for this worker
abbrev pub Lists : ℕ → ℕ → ℕ → Answer → State → Type 0
Lists worker id listed a s =
    MatchOption (client_of worker id s.clients) (a ≡ answer.Refused refusal.NoClient)
    (λ c. IsListOf c.holdings listed a)

-- what a free is answered, by the result of its release
abbrev pub release_answer : Result Unmapped Refusal → Answer
release_answer (Ok u) = answer_of_release u
release_answer (Err e) = answer.Refused e

-- A free is a release of the client's range, which leads the domain from s to t, between these
-- calls of the sink.
abbrev pub FreesRange : Bool → SeatState → ℕ → ℕ → Answer → ℕ → List Call → List Call → State
    → State
    → Type 0
FreesRange strict seat id lo a number before now s t =
    (result : Result Unmapped Refusal) × DoesRelease strict seat id lo result number before now s t
    × (a ≡ release_answer result)

-- A flush, and where it ended well all rings are drained into the magazines of worker w.
abbrev pub FlushesAndDrains : ℕ → Answer → ℕ → List Call → List Call → State → State → Type 0
FlushesAndDrains w (answer.Flushed k freed) number before now s t =
    (m : State) × DoesFlush (Ok k) number before now s m × DrainsAll w (Ok freed) m t
FlushesAndDrains w (answer.Refused e) number before now s t =
    DoesFlush (Err e) number before now s t
FlushesAndDrains w a number before now s t = ⊥

-- two proofs of this are equal
abbrev pub frames_code : Coded Frames
frames_code =
    code_by (ℕ × ℕ) (coded× coded_ℕ coded_ℕ) (λ r. (r.lo, r.len))
    (λ p. record { lo = p.0; len = p.1 }) (λ _. refl)

pub KeepsOthers-prop : (client : Option ℕ) (s t : State) → IsProp (KeepsOthers client s t)
KeepsOthers-prop client s t =
    Π_prop (λ id. →_prop (Coded-set (coded_list frames_code) (held_by id t.clients)
    (held_by id s.clients)))

pub known_keeps-prop : (before now : Option State) (client : Option ℕ)
    → IsProp (WhereKnown before now (KeepsOthers client))
known_keeps-prop None now client = Unit-prop
known_keeps-prop (Some s) None client = λ x y. absurd x
known_keeps-prop (Some s) (Some t) client = KeepsOthers-prop client s t
