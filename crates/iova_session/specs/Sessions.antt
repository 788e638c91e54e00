-- What a session takes, asks, writes and ends by.
use Rattle.std.specs.Prelude.{ℕ, ◌≡◌, ◌≢◌, ◌+◌, ◌≤◌, ◌⊎◌, List, [], ◌∷◌, ◌++◌, Option, length, take, codes}
use Rattle.std.specs.Io.KnownBytes.{Appends, Consumes}
use Rattle.std.specs.List.{AllByRecursion}
use Rattle.iova_range.specs.declared.limits.TheConstants.{MAX_REQUESTS, MAX_SESSION_READS}
use Rattle.iova_text.specs.Lines.{IsUnended}
use Rattle.iova_proto.specs.Feeds.{BeginsBad}
use Rattle.iova_proto.specs.Requests.{request_text, IsRequest}
use Rattle.iova_proto.specs.declared.request.Request.{Request}
use Rattle.iova_proto.specs.declared.request.Request.TheVariants as request
use Rattle.iova_session.specs.Pairs.{Pair, requests_of, answers_of, requests_text, answers_text}
use Rattle.iova_session.specs.declared.end.End.{End}
use Rattle.iova_session.specs.declared.end.End.TheVariants as ends
use Rattle.iova_session.specs.declared.session_limits.SessionLimits.{SessionLimits}

-- what is written for a line that is no request's
abbrev pub bad_line : List ℕ
bad_line = codes "no 20 BadLine\n"

-- what is written at a limit
abbrev pub too_many : List ℕ
too_many = codes "no 21 TooMany\n"

-- none of the requests is bye
unfoldable pub HasNoBye : List Request → Type 0
HasNoBye rs = AllByRecursion (λ r. r ≢ request.Bye) rs

-- no request stands after a bye
unfoldable pub StopsAtBye : List Request → Type 0
StopsAtBye [] = Unit {0}
StopsAtBye (r ∷ rs) = (r ≡ request.Bye → rs ≡ []) × StopsAtBye rs

-- the last of the requests is bye, and it is the only one
pub record EndsInBye (rs : List Request) : Type 0 where
  pub others : List Request
  pub whole : rs ≡ others ++ request.Bye ∷ []
  pub none : HasNoBye others

-- the bytes begin with the line of one more request
pub record BeginsRequest (bytes : List ℕ) : Type 0 where
  pub request : Request
  pub more : List ℕ
  pub good : IsRequest request
  pub whole : bytes ≡ request_text request ++ more

-- The bytes begin with the lines of these requests, each a line of the protocol, and the rest
-- follows. They are no more than the most that may be asked, and none of them stands after a bye.
pub record BeginsWith (most : ℕ) (bytes : List ℕ) (rs : List Request) (rest : List ℕ) : Type 0 where
  pub good : AllByRecursion IsRequest rs
  pub whole : bytes ≡ requests_text rs ++ rest
  pub byes : StopsAtBye rs
  pub few : length rs ≤ most

-- a request follows the most that may be asked, or no whole line follows and the most reads were
-- made
abbrev pub IsPastLimit : ℕ → ℕ → List Request → List ℕ → ℕ → Type 0
IsPastLimit most most_reads rs rest reads =
    ((length rs ≡ most) × BeginsRequest rest) ⊎ ((reads ≡ most_reads) × IsUnended rest)

-- Which line of its own a session may write at last: none; that a line is bad, where a bad one
-- follows; that a limit is passed.
abbrev pub IsLastLine : ℕ → ℕ → List Request → List ℕ → ℕ → List ℕ → Type 0
IsLastLine most most_reads rs rest reads line = (line ≡ [])
    ⊎ ((line ≡ bad_line) × HasNoBye rs × BeginsBad rest)
    ⊎ ((line ≡ too_many) × HasNoBye rs × IsPastLimit most most_reads rs rest reads)

-- What each end says, of the most that may be asked and the most that may be read, the requests
-- that were asked, what follows them in the bytes that were taken, the number of reads, the text of
-- the answers, and what was written.
abbrev pub EndsSo : ℕ → ℕ → List Request → List ℕ → ℕ → List ℕ → List ℕ → End → Type 0
EndsSo most most_reads rs rest reads text written ends.Bye = EndsInBye rs × (written ≡ text)
EndsSo most most_reads rs rest reads text written ends.Closed =
    HasNoBye rs × IsUnended rest × (written ≡ text)
EndsSo most most_reads rs rest reads text written ends.BadLine =
    HasNoBye rs × BeginsBad rest × (written ≡ text ++ bad_line)
EndsSo most most_reads rs rest reads text written ends.TooMany =
    HasNoBye rs × IsPastLimit most most_reads rs rest reads × (written ≡ text ++ too_many)
EndsSo most most_reads rs rest reads text written ends.LinkFault =
    (line : List ℕ) × (n : ℕ) × IsLastLine most most_reads rs rest reads line
    × (written ≡ take n (text ++ line))
EndsSo most most_reads rs rest reads text written ends.NoMemory = (n : ℕ) × (written ≡ take n text)

-- A session: the bytes that it took, the requests that it asked with their answers, the bytes that
-- it wrote, the number of its reads, and its end. The requests are the first ones that stand in the
-- bytes, and all of them but at LinkFault and NoMemory.
pub record ServesWithin (most most_reads : ℕ) (taken : List ℕ) (ps : List Pair) (written : List ℕ)
    (reads : ℕ) (end : End) : Type 0 where
  pub rest : List ℕ
  pub requests : BeginsWith most taken (requests_of ps) rest
  pub few : reads ≤ most_reads
  pub says : EndsSo most most_reads (requests_of ps) rest reads
      (answers_text (answers_of ps)) written end

-- what a session does where nobody says another bound of its reads
abbrev pub Serves : ℕ → List ℕ → List Pair → List ℕ → ℕ → End → Type 0
Serves most taken ps written reads end =
    ServesWithin most MAX_SESSION_READS taken ps written reads end

-- the limits where nobody says others
abbrev pub usual_limits : SessionLimits
usual_limits = record { requests = MAX_REQUESTS; reads = MAX_SESSION_READS }

-- A session over a link within these limits, which asked these requests with their answers and
-- ended so: the bytes that it took of those that the link had left, the bytes that it wrote, and
-- the number of its reads.
pub record ServesOver {L : Type 0} (left sent : L → Option (List ℕ)) (reads : L → ℕ)
    (limits : SessionLimits) (old new : L) (ps : List Pair) (end : End) : Type 0 where
  pub taken : List ℕ
  pub written : List ℕ
  pub count : ℕ
  pub consumed : Consumes (left old) (left new) taken
  pub appended : Appends (sent old) (sent new) written
  pub counted : reads new ≡ reads old + count
  pub served : ServesWithin limits.requests limits.reads taken ps written count end

-- how many calls of the link failed in a session that ended so
abbrev pub failures_at : End → ℕ
failures_at ends.Bye = 0
failures_at ends.Closed = 0
failures_at ends.LinkFault = 1
failures_at ends.BadLine = 0
failures_at ends.TooMany = 0
failures_at ends.NoMemory = 0

-- how many reads found the end of the link in it
abbrev pub ends_at : End → ℕ
ends_at ends.Bye = 0
ends_at ends.Closed = 1
ends_at ends.LinkFault = 0
ends_at ends.BadLine = 0
ends_at ends.TooMany = 0
ends_at ends.NoMemory = 0
