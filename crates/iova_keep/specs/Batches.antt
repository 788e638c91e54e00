-- Several asks in one hold.
use Rattle.std.specs.Prelude.{ℕ, ◌≡◌, ◌≢◌, Bool, true, false, List, [], ◌∷◌, ◌++◌, length, Result, MatchResult}
use Rattle.iova_range.specs.declared.refusal.Refusal.{Refusal}
use Rattle.iova_range.specs.declared.refusal.Refusal.TheVariants as refusal
use Rattle.iova_model.specs.declared.step.Step.TheVariants as step
use Rattle.iova_model.specs.declared.step.Reply.{Reply}
use Rattle.iova_model.specs.declared.step.Reply.TheVariants as reply
use Rattle.iova_model.specs.declared.totals.Totals.{Totals}
use Rattle.iova_model.specs.State.{State}
use Rattle.iova_model.specs.Effects.{MovesTotals, IsGivenTo}
use Rattle.iova_keep.specs.declared.ask.Ask.{Ask}
use Rattle.iova_keep.specs.declared.ask.Ask.TheVariants as ask
use Rattle.iova_keep.specs.declared.ask.Told.{Told}
use Rattle.iova_keep.specs.declared.ask.Told.TheVariants as told
use Rattle.iova_keep.specs.Steps.{Takes}
use Rattle.iova_keep.specs.Views.{SeatState, IsAllocRefusal, IsUnmapRefusal, stat_of}
use Rattle.iova_keep.specs.Events.{CallEvent, Ran, Does, Unmapping}

-- what an ask may be answered: a request is given a range of its own, or refused; what is freed
-- begins where it was asked, and where the ring is full there is no answer
abbrev pub IsToldOf : Ask → Told → Type 0
IsToldOf (ask.Alloc frames limit) (told.Given r) = IsGivenTo frames limit r
IsToldOf (ask.Alloc frames limit) (told.Refused e) = IsAllocRefusal e
IsToldOf (ask.Free lo) (told.Queued r) = r.lo ≡ lo
IsToldOf (ask.Free lo) (told.Refused e) = IsUnmapRefusal e × (e ≢ refusal.RingFull)
IsToldOf ask.Stat (told.Stat x) = Unit {0}
IsToldOf a x = ⊥

-- the reply of which this is the answer
abbrev pub IsReplyTold : Reply → Told → Type 0
IsReplyTold (reply.Given r) (told.Given q) = q ≡ r
IsReplyTold (reply.Queued r) (told.Queued q) = q ≡ r
IsReplyTold (reply.Refused e) (told.Refused f) = f ≡ e
IsReplyTold r x = ⊥

-- the shares move by what is answered
abbrev pub MovesTold : Told → Totals → Totals → Type 0
MovesTold (told.Given r) old new = MovesTotals (reply.Given r) old new
MovesTold (told.Queued r) old new = MovesTotals (reply.Queued r) old new
MovesTold (told.Stat x) old new = new ≡ old
MovesTold (told.Refused e) old new = new ≡ old

-- One ask of a client of worker w, whose seat has `held`: it has this answer, and leads from s to
-- t.
abbrev pub DoesAsk : ℕ → ℕ → Ask → Told → Totals → State → State → Type 0
DoesAsk w id (ask.Alloc frames limit) x held s t =
    (r : Reply) × IsReplyTold r x × Takes s (step.Alloc w id frames limit) r t
DoesAsk w id (ask.Free lo) x held s t =
    (r : Reply) × IsReplyTold r x × (r ≢ reply.Refused refusal.RingFull)
    × Does (Unmapping (step.Unmap w id lo) held r) s t
DoesAsk w id ask.Stat x held s t = (x ≡ told.Stat (stat_of s)) × (t ≡ s)

-- The answer for the reply to an ask is appended.
pub record TellsReply (a : Ask) (r : Reply) (before now : List Told) : Type 0 where
  pub told : Told
  pub appended : now ≡ before ++ told ∷ []
  pub of_reply : IsReplyTold r told
  pub of_ask : IsToldOf a told

-- One ask is done, and its answer appended.
pub record TellsOne (w id : ℕ) (a : Ask) (before now : List Told) (held left : Totals)
    (s t : State) : Type 0 where
  pub told : Told
  pub appended : now ≡ before ++ told ∷ []
  pub of_ask : IsToldOf a told
  pub moves : MovesTold told held left
  pub does : DoesAsk w id a told held s t

-- A batch stops at a free whose ring is full, and there it has changed nothing but what that step
-- did.
abbrev pub StopsAt : ℕ → ℕ → List Ask → Totals → State → State → Type 0
StopsAt w id [] held s t = t ≡ s
StopsAt w id (ask.Free lo ∷ asks) held s t =
    Does (Unmapping (step.Unmap w id lo) held (reply.Refused refusal.RingFull)) s t
StopsAt w id (ask.Alloc frames limit ∷ asks) held s t = ⊥
StopsAt w id (ask.Stat ∷ asks) held s t = ⊥

-- The asks are done in order, with these answers; where some are left, the next one is a free whose
-- ring is full.
abbrev pub DoesAsks : ℕ → ℕ → List Ask → List Told → Totals → Totals → State → State → Type 0
DoesAsks w id asks [] held left s t = StopsAt w id asks held s t × (left ≡ held)
DoesAsks w id [] (x ∷ xs) held left s t = ⊥
DoesAsks w id (a ∷ asks) (x ∷ xs) held left s t =
    (mid : State) × (now : Totals) × DoesAsk w id a x held s mid × MovesTold x held now
    × DoesAsks w id asks xs now left mid t

-- a batch ends with its last ask, or before a free
abbrev pub MayStop : List Ask → Type 0
MayStop [] = Unit {0}
MayStop (ask.Free lo ∷ asks) = Unit {0}
MayStop (ask.Alloc frames limit ∷ asks) = ⊥
MayStop (ask.Stat ∷ asks) = ⊥

-- what the asks may be answered where the keeper's domain isn't known
abbrev pub ToldOfAsks : List Ask → List Told → Totals → Totals → Type 0
ToldOfAsks asks [] held left = MayStop asks × (left ≡ held)
ToldOfAsks [] (x ∷ xs) held left = ⊥
ToldOfAsks (a ∷ asks) (x ∷ xs) held left =
    (now : Totals) × IsToldOf a x × MovesTold x held now × ToldOfAsks asks xs now left

-- so many asks were done, and their answers appended
pub record Batched (w id : ℕ) (asks : List Ask) (before now : List Told) (count : ℕ)
    (held left : Totals) (s t : State)
    : Type 0 where
  pub more : List Told
  pub appended : now ≡ before ++ more
  pub counted : length more ≡ count
  pub does : DoesAsks w id asks more held left s t

pub record TellsAsks (asks : List Ask) (before now : List Told) (count : ℕ)
    (held left : Totals) : Type 0 where
  pub more : List Told
  pub appended : now ≡ before ++ more
  pub counted : length more ≡ count
  pub told : ToldOfAsks asks more held left

-- The asks that a batch may do: all of them, in a strict domain those before the first free.

abbrev pub before_free : List Ask → List Ask
before_free [] = []
before_free (ask.Free lo ∷ asks) = []
before_free (ask.Alloc frames limit ∷ asks) = ask.Alloc frames limit ∷ before_free asks
before_free (ask.Stat ∷ asks) = ask.Stat ∷ before_free asks

abbrev pub may_do : Bool → List Ask → List Ask
may_do true asks = before_free asks
may_do false asks = asks

-- a batch that is refused has done nothing
abbrev pub DoesBatch : Bool → SeatState → Totals → ℕ → List Ask → List Told → List Told
    → Result ℕ Refusal → State
    → State → Type 0
DoesBatch strict seat left id asks before now result s t =
    MatchResult result (λ count. Batched seat.worker id (may_do strict asks) before now count
    seat.held left s t)
    (λ e. t ≡ s)

-- What is run for the asks.

-- One ask of a client of worker w, whose seat has `held`: this is run for it, where it is answered
-- so.
-- For the domain in numbers no step is run.
abbrev pub AskRuns : ℕ → ℕ → Ask → Told → Totals → List CallEvent → Type 0
AskRuns w id (ask.Alloc frames limit) x held es =
    (r : Reply) × IsReplyTold r x × (es ≡ Ran (step.Alloc w id frames limit) r ∷ [])
AskRuns w id (ask.Free lo) x held es =
    (r : Reply) × IsReplyTold r x × (r ≢ reply.Refused refusal.RingFull)
    × Unmapping (step.Unmap w id lo) held r es
AskRuns w id ask.Stat x held es = es ≡ []

-- what is run where a batch stops: the free whose ring is full, if any ask is left
abbrev pub StopRuns : ℕ → ℕ → List Ask → Totals → List CallEvent → Type 0
StopRuns w id [] held es = es ≡ []
StopRuns w id (ask.Free lo ∷ asks) held es =
    Unmapping (step.Unmap w id lo) held (reply.Refused refusal.RingFull) es
StopRuns w id (ask.Alloc frames limit ∷ asks) held es = ⊥
StopRuns w id (ask.Stat ∷ asks) held es = ⊥

-- This is run for the asks, in order, where they have these answers.
pub data AsksRun (w id : ℕ) : List Ask → List Told → Totals → Totals → List CallEvent → Type 0 where
  stopped : (asks : List Ask) (held : Totals) (es : List CallEvent) → StopRuns w id asks held es
      → AsksRun w id asks [] held held es
  asked : (a : Ask) (asks : List Ask) (x : Told) (xs : List Told) (held now left : Totals)
      (es fs : List CallEvent)
      → AskRuns w id a x held es → MovesTold x held now → AsksRun w id asks xs now left fs
      → AsksRun w id (a ∷ asks) (x ∷ xs) held left (es ++ fs)

-- One ask is done, for which this is run, and its answer appended.
pub record OneRuns (w id : ℕ) (a : Ask) (before now : List Told) (held left : Totals)
    (es : List CallEvent)
    : Type 0 where
  pub told : Told
  pub appended : now ≡ before ++ told ∷ []
  pub moves : MovesTold told held left
  pub runs : AskRuns w id a told held es

-- this is run where so many asks were done, and their answers appended
pub record BatchedRuns (w id : ℕ) (asks : List Ask) (before now : List Told) (count : ℕ)
    (held left : Totals) (es : List CallEvent)
    : Type 0 where
  pub more : List Told
  pub appended : now ≡ before ++ more
  pub counted : length more ≡ count
  pub runs : AsksRun w id asks more held left es

-- a batch that is refused runs nothing
abbrev pub BatchRuns : Bool → SeatState → Totals → ℕ → List Ask → List Told → List Told
    → Result ℕ Refusal → List CallEvent
    → Type 0
BatchRuns strict seat left id asks before now result es =
    MatchResult result (λ count. BatchedRuns seat.worker id (may_do strict asks) before now count
    seat.held left es)
    (λ e. es ≡ [])
