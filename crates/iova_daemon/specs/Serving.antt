-- The result of serving.
use Rattle.std.specs.Prelude.{ℕ, ◌≡◌, ◌+◌, ◌-◌, ◌≤◌, List, [], ◌∷◌, map, sum_by}
use Rattle.iova_range.specs.declared.refusal.Refusal.{Refusal}
use Rattle.iova_range.specs.declared.refusal.Refusal.TheVariants as refusal
use Rattle.iova_model.specs.Effects.{IsAmong}
use Rattle.iova_sink.specs.Calls.{Call, good_calls}
use Rattle.iova_keep.specs.FlushEvents.{MakesRounds}
use Rattle.iova_keep.specs.Views.{SeatState, TallyState, KeepsPlace, RisesWithin}
use Rattle.iova_lock.specs.Books.{tally_parts}

-- why nothing was served
abbrev pub IsServeRefusal : Refusal → Type 0
IsServeRefusal e = IsAmong e (refusal.NoMemory ∷ refusal.LinkFault ∷ [])

-- What the flusher's thread did in the domain of this number: rounds, one after another, in each of
-- which a flush began, the sink answered for it, and it ended by that answer. No other call of its
-- sink was made, and no other flush of its tally began or ended.
pub record RoundsOnThread (domain : ℕ) (old new : TallyState) (before now : List Call)
    : Type 0 where
  pub rounds : MakesRounds domain old.past new.past before now
  pub parts : new.parts ≡ old.parts
  pub good : RisesWithin old.good new.good before now

-- Each of these seats keeps its place, while its sink was called: as the first two lists have them
-- before, and the last two behind. So no tally rose by more than its sink was given good calls.
pub data AreKept : List SeatState → List (List Call) → List SeatState → List (List Call) → Type 0 where
  none : AreKept [] [] [] []
  kept : (s t : SeatState) (c d : List Call) (ss ts : List SeatState) (cs ds : List (List Call))
      → KeepsPlace s t c d → AreKept ss cs ts ds → AreKept (s ∷ ss) (c ∷ cs) (t ∷ ts) (d ∷ ds)

-- the flushes that tallies count as ended well rose by no more than sinks were given good calls
abbrev pub AreWithin : List SeatState → List (List Call) → List SeatState → List (List Call)
    → Type 0
AreWithin seats calls seats_now calls_now =
    sum_by (λ s. s.tally.good) seats_now + sum_by good_calls calls
    ≤ sum_by (λ s. s.tally.good) seats + sum_by good_calls calls_now

-- With a flusher, whose tally begins at 0, and whose sink is the last of those before: all that was
-- counted as ended well while these were served, by whomever, is no more than the good calls that
-- sinks were given meanwhile.
abbrev pub CountsWithin : List SeatState → List (List Call) → List SeatState → TallyState
    → List (List Call) → List Call → Type 0
CountsWithin seats calls seats_now tally calls_now flusher_calls =
    sum_by (λ s. s.tally.good) seats_now + tally.good + sum_by good_calls calls
    ≤ sum_by (λ s. s.tally.good) seats + sum_by good_calls calls_now + good_calls flusher_calls

-- seats of which the first one has given away a part of its tally
abbrev pub without_part : List SeatState → List SeatState
without_part [] = []
without_part (s ∷ ss) =
    record s { tally = record s.tally { parts = s.tally.parts - 1 } } ∷ ss

-- What CountsWithin says, where the flusher's tally and the sinks aren't given back: there is a
-- tally, which has all parts that the seats haven't, and there are sinks, of which it holds.
abbrev pub CountsWithinSome : {D : Type 0} → (D → List Call) → List SeatState → List D
    → List SeatState → Type 0
CountsWithinSome {D} calls seats sinks seats_now =
    (tally : TallyState) × (sinks_now : List D) × (flusher : D)
    × (tally_parts seats_now + tally.parts ≡ tally_parts seats)
    × CountsWithin seats (map calls sinks) seats_now tally (map calls sinks_now) (calls flusher)
