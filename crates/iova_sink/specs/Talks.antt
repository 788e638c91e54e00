-- What passes over a channel while a sink is called, from the first call to the last.
use Rattle.std.specs.Prelude.{ℕ, ◌≡◌, ◌≢◌, ◌⊎◌, Bool, true, false, List, [], ◌∷◌, ◌++◌, is_ok, codes}
use Rattle.iova_sink.specs.declared.history.Passed.{Passed}
use Rattle.iova_sink.specs.Calls.{Call, Invalidation, Gone}
use Rattle.iova_sink.specs.Records.{inval_line, reset_line, gone_text, done_line}
use Rattle.iova_sink.specs.Channels.{IsFront, IsFailure, exchange}

-- what a call asks of the peer
abbrev pub request_of : Call → List ℕ
request_of (Invalidation domain number ok) = inval_line domain number
request_of (Gone domain client ranges answer) = gone_text domain client ranges

-- the answer that it is done
abbrev pub done_of : Call → List ℕ
done_of (Invalidation domain number ok) = done_line (codes "inval") number
done_of (Gone domain client ranges answer) = done_line (codes "gone") client

-- whether it was answered well
abbrev pub is_good : Call → Bool
is_good (Invalidation domain number ok) = ok
is_good (Gone domain client ranges answer) = is_ok answer

-- What passed at a request that was not answered as done: a front of it was sent, and some bytes
-- were received behind it, of which the first are taken for an answer; and a call of the channel
-- failed, or bytes stood in the connection, or the whole request was sent and what was taken is not
-- that it is done.
pub record IsUndone (request done : List ℕ) (part : List Passed) : Type 0 where
  pub anew : Bool
  pub front : List ℕ
  pub more : List ℕ
  pub got : List ℕ
  pub last : List Passed
  pub is_front : IsFront front request
  pub is_first : IsFront got more
  pub passed : part ≡ exchange anew front more ++ last
  pub failure : IsFailure last ⊎ ((last ≡ []) × (front ≡ request) × (got ≢ done))

-- What passed at a request. Where it was good, the whole request was sent, and behind it the peer
-- sent that it is done, over the same connection. What came with that stands behind it.
abbrev pub PassesAt : (good : Bool) → (request done : List ℕ) → List Passed → Type 0
PassesAt true request done part =
    (anew : Bool) × (behind : List ℕ) × (part ≡ exchange anew request (done ++ behind))
PassesAt false request done part = IsUndone request done part

-- What passed over a channel comes of these calls of its sink, in their order, and of its resets:
-- each of them has its own part of it. Before the first of them anything may have passed.
pub data IsTalk : List Call → List Passed → Type 0 where
  begun : (passed : List Passed) → IsTalk [] passed
  called : (calls : List Call) (passed part : List Passed) (call : Call) → IsTalk calls passed
      → PassesAt (is_good call) (request_of call) (done_of call) part
      → IsTalk (calls ++ call ∷ []) (passed ++ part)
  reset : (calls : List Call) (passed part : List Passed) (domain : ℕ) (good : Bool)
      → IsTalk calls passed
      → PassesAt good (reset_line domain) (done_line (codes "reset") domain) part
      → IsTalk calls (passed ++ part)

-- The answer of a good call came behind its request: in what passed over the channel stands the
-- whole request, directly behind it that it is done, and before both is what the calls before came
-- to.
abbrev pub GoodCallsAreAnswered : Type 0
GoodCallsAreAnswered = (before after : List Call) (call : Call) (passed : List Passed)
    → IsTalk (before ++ call ∷ after) passed → is_good call ≡ true
    → (first rest : List Passed) × (anew : Bool) × (behind : List ℕ) × IsTalk before first
    × (passed ≡ first ++ (exchange anew (request_of call) (done_of call ++ behind) ++ rest))
