-- The result of serving, from the beginning of a domain to its end.
use Rattle.std.specs.Prelude.{ℕ, ◌≡◌, ◌+◌, ◌≤◌, Bool, List, [], ◌∷◌, Option, Some, None, map, sum_by}
use Rattle.iova_model.specs.State.{State}
use Rattle.iova_sink.specs.Calls.{Call, good_calls}
use Rattle.iova_keep.specs.Views.{SeatState, TallyState, RisesWithin}
use Rattle.iova_lock.specs.Books.{tally_parts, tally_good}
use Rattle.iova_session.specs.Posts.{EndsPost}

-- the calls of a sink, where there is one
abbrev pub last_calls : {E : Type 0} → (E → List Call) → Option E → List Call
last_calls calls None = []
last_calls calls (Some sink) = calls sink

-- the workers of these seats
abbrev pub workers_of : List SeatState → List ℕ
workers_of seats = map (λ s. s.worker) seats

-- What the end of a service leaves of seats, all with one sink: their workers, their parts, and
-- tallies that rose by no more than its good calls.
pub record EndsAll (seats seats_now : List SeatState) (before now : List Call) : Type 0 where
  pub workers : workers_of seats_now ≡ workers_of seats
  pub parts : tally_parts seats_now ≡ tally_parts seats
  pub good : RisesWithin (tally_good seats) (tally_good seats_now) before now

-- Each of these posts is ended, one after the other, in a domain of this number, from s to t: its
-- clients that wait are tried once more, where it has room for the ranges of a client, and then,
-- where a flush is wanted, what is in a ring is flushed and drained.
abbrev pub EndsEach : {P : Type 0} → (seat : P → SeatState) → (waiting : P → List ℕ)
    → (room : P → ℕ) → (flushes : Bool) → (number : ℕ) → (posts posts_now : List P)
    → (before now : List Call) → State → State → Type 0
EndsEach seat waiting room flushes number [] [] before now s t = (now ≡ before) × (t ≡ s)
EndsEach seat waiting room flushes number [] (q ∷ qs) before now s t = ⊥
EndsEach seat waiting room flushes number (p ∷ ps) [] before now s t = ⊥
EndsEach seat waiting room flushes number (p ∷ ps) (q ∷ qs) before now s t =
    (calls : List Call) × (here : State)
    × EndsPost flushes (room p) number (waiting p) (waiting q) (seat p) (seat q).held before calls s
    here
    × EndsEach seat waiting room flushes number ps qs calls now here t

-- A domain that is taken out of its lock counts as many flushes that ended well as were counted at
-- these seats and by this tally before, and at most as many more as a sink was given good calls.
abbrev pub EndsCounted : List SeatState → TallyState → List Call → State → Type 0
EndsCounted seats tally last domain =
    domain.flushes.good ≤ tally_good seats + tally.good + good_calls last

-- All flushes that a domain counts as ended well, from its beginning to its end, are no more than
-- the good calls that sinks were given: those of the posts and the flusher's, and that of the last
-- round.
abbrev pub IsAnswered : State → List (List Call) → List Call → List Call → Type 0
IsAnswered domain posts flusher last =
    domain.flushes.good ≤ sum_by good_calls posts + good_calls flusher + good_calls last
