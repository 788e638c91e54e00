-- How a session goes on, from piece to piece of what it takes.
use Rattle.std.specs.Prelude.{ℕ, ◌≡◌, ◌+◌, List, [], ◌++◌, take, Option, Some, Result, Ok, Err, length, ◌⊎◌}
use Rattle.std.specs.List.{AllByRecursion}
use Rattle.iova_text.specs.Lines.{IsUnended}
use Rattle.iova_proto.specs.Feeds.{BeginsBad}
use Rattle.iova_proto.specs.Requests.{IsRequest}
use Rattle.iova_proto.specs.declared.request.Request.{Request}
use Rattle.iova_session.specs.Pairs.{Pair, requests_of, answers_of, requests_text, answers_text}
use Rattle.iova_session.specs.Sessions.{HasNoBye, EndsInBye, BeginsRequest, Serves, failures_at}
use Rattle.iova_session.specs.declared.end.End.{End}
use Rattle.iova_session.specs.declared.end.End.TheVariants as ends
use Rattle.iova_session.specs.declared.gathering.Stop.{Stop}
use Rattle.iova_session.specs.declared.gathering.Stop.TheVariants as stops

-- the bytes are the lines of these requests, and what is kept of the next line
pub record IsLines (bytes : List ℕ) (rs : List Request) (next : List ℕ) : Type 0 where
  pub good : AllByRecursion IsRequest rs
  pub whole : bytes ≡ requests_text rs ++ next

-- so far all requests were asked, none of them bye, and all answers were written
pub record AllAnswered (bytes : List ℕ) (ps : List Pair) (next written : List ℕ) : Type 0 where
  pub lines : IsLines bytes (requests_of ps) next
  pub byes : HasNoBye (requests_of ps)
  pub answered : written ≡ answers_text (answers_of ps)

-- What gathering gives after the bytes that are kept: the requests, how much of the piece they
-- take, what is kept then.
abbrev pub Gathers : ℕ → List ℕ → List ℕ → List Request → ℕ → Stop → Option (List ℕ) → Type 0
Gathers left kept piece rs used stops.More new =
    HasNoBye rs × ((next : List ℕ) × IsLines (kept ++ piece) rs next × IsUnended next
    × (new ≡ Some next))
Gathers left kept piece rs used stops.Full new =
    HasNoBye rs × IsLines (kept ++ take used piece) rs [] × (new ≡ Some [])
Gathers left kept piece rs used stops.Bye new =
    EndsInBye rs × IsLines (kept ++ take used piece) rs []
Gathers left kept piece rs used stops.Bad new =
    HasNoBye rs × ((rest : List ℕ) × IsLines (kept ++ piece) rs rest × BeginsBad rest)
Gathers left kept piece rs used stops.Limit new =
    HasNoBye rs × (length rs ≡ left) × ((rest : List ℕ) × IsLines (kept ++ piece) rs rest
    × BeginsRequest rest)

-- the ends at which not all that was gathered is asked, or not all answers are written
abbrev pub IsCut : End → Type 0
IsCut end = (end ≡ ends.LinkFault) ⊎ (end ≡ ends.NoMemory)

-- What asking a run of requests gives: all are asked and answered, or the first ones, and a front
-- of the answers is written.
abbrev pub AsksRun : List Request → List Pair → List ℕ → Result Unit End → Type 0
AsksRun rs ps written (Ok u) = (requests_of ps ≡ rs) × (written ≡ answers_text (answers_of ps))
AsksRun rs ps written (Err end) =
    IsCut end × ((more : List Request) × (rs ≡ requests_of ps ++ more))
    × ((n : ℕ) × (written ≡ take n (answers_text (answers_of ps))))

-- how the failures of the link are counted where a part of a session answers this
abbrev pub CountsFault : Result Unit End → ℕ → ℕ → Type 0
CountsFault (Ok u) old new = new ≡ old
CountsFault (Err end) old new = new ≡ old + failures_at end

-- What a piece gives after what was kept: the session goes on with so many requests left, or it
-- ends.
abbrev pub TakesPiece : ℕ → List ℕ → List Pair → List ℕ → ℕ → Option (List ℕ) → Result Unit End
    → Type 0
TakesPiece left bytes ps written here new (Ok u) =
    (next : List ℕ) × AllAnswered bytes ps next written × IsUnended next × (new ≡ Some next)
    × (length ps + here ≡ left)
TakesPiece left bytes ps written here new (Err end) = Serves left bytes ps written 0 end
