-- What contracts see of a connection to a peer that answers, and of the calls over it.
use Rattle.std.specs.Prelude.{ℕ, ◌≡◌, ◌≢◌, ◌+◌, ◌<◌, ◌≤◌, ◌⊎◌, Bool, true, false, List, [], ◌∷◌, ◌++◌, Result, Ok, Err, take, length, slice_index}
use Rattle.iova_sink.specs.Calls.{Call}
use Rattle.iova_sink.specs.Passing.{with_one, sent_bytes, received_bytes, with_sent_bytes, with_received_bytes}
use Rattle.iova_sink.specs.declared.channel.ChannelFault.{ChannelFault}
use Rattle.iova_sink.specs.declared.channel.Incoming.{Incoming}
use Rattle.iova_sink.specs.declared.channel.Incoming.TheVariants as incoming
use Rattle.iova_sink.specs.declared.history.Passed.{Passed}
use Rattle.iova_sink.specs.declared.history.Passed.TheVariants as passed
use Rattle.iova_sink.specs.declared.sink.SinkFault.{SinkFault}
use Rattle.iova_sink.specs.declared.sink.SinkFault.TheVariants as fault
use Rattle.iova_sink.specs.declared.asking.AnswerState.{AnswerState}
use Rattle.iova_sink.specs.declared.asking.AnswerState.TheVariants as heard

-- what passed over a channel, oldest first: over all connections, one behind the other; the bytes
-- of it that were received and not handed on yet; and whether there is a connection
pub record Talk : Type 0 where
  pub passed : List Passed
  pub ahead : List ℕ
  pub connected : Bool

-- a sink over a channel: the channel, and the sink's calls
pub record Asking (C : Type 0) : Type 0 where
  pub channel : C
  pub calls : List Call

abbrev pub with_sent : Talk → List ℕ → Talk
with_sent t bytes = record t { passed = with_sent_bytes t.passed bytes }

abbrev pub with_failure : Talk → Talk
with_failure t = record t { passed = with_one t.passed passed.Failed }

abbrev pub with_stray : Talk → Talk
with_stray t = record t { passed = with_one t.passed passed.Strayed }

abbrev pub with_connection : Talk → Talk
with_connection t =
    record { passed = with_one t.passed passed.Connected; ahead = []; connected = true }

abbrev pub without_connection : Talk → Talk
without_connection t = record { passed = t.passed; ahead = []; connected = false }

-- a front of the bytes was sent, or the call failed
abbrev pub Sends : Talk → Talk → List ℕ → Result ℕ ChannelFault → Type 0
Sends old new bytes (Ok n) = new ≡ with_sent old (take n bytes)
Sends old new bytes (Err e) = new ≡ with_failure old

-- More bytes were received, and of those that there are then these are handed on, the first ones.
pub record HandsOn (old new : Talk) (bytes : List ℕ) : Type 0 where
  pub more : List ℕ
  pub passed : new.passed ≡ with_received_bytes old.passed more
  pub order : old.ahead ++ more ≡ bytes ++ new.ahead
  pub connected : new.connected ≡ old.connected

-- the first bytes of the buffer are handed on, or the call failed
abbrev pub Receives : Talk → Talk → List ℕ → Result ℕ ChannelFault → Type 0
Receives old new buffer (Ok n) = HandsOn old new (take n buffer)
Receives old new buffer (Err e) = new ≡ with_failure old

-- nothing was sent or received, and bytes that stand there are counted; where nothing stands there,
-- all that was received was handed on
abbrev pub Looks : Talk → Talk → Result Incoming ChannelFault → Type 0
Looks old new (Ok incoming.Nothing) = (new ≡ old) × (old.ahead ≡ [])
Looks old new (Ok incoming.Bytes) = new ≡ with_stray old
Looks old new (Ok incoming.End) = new ≡ old
Looks old new (Err e) = new ≡ with_failure old

-- there is a connection, or the call failed and there is none
abbrev pub Connects : Talk → Talk → Result Unit ChannelFault → Type 0
Connects old new (Ok u) = new ≡ with_connection old
Connects old new (Err e) = new ≡ without_connection (with_failure old)

-- Requests

-- a call failed, or bytes stood in the connection
abbrev pub IsFailure : List Passed → Type 0
IsFailure ps = (ps ≡ passed.Failed ∷ []) ⊎ (ps ≡ passed.Strayed ∷ [])

-- a connection that is made anew, or none
abbrev pub opening : Bool → List Passed
opening true = passed.Connected ∷ []
opening false = []

-- What passes at a request: a new connection or none, bytes that are sent, and bytes that are
-- received behind them, over one connection.
abbrev pub exchange : (anew : Bool) → (sent received : List ℕ) → List Passed
exchange anew sent received = opening anew ++ (sent_bytes sent ++ received_bytes received)

-- the connection that there was, or a new one, in which nothing stands
abbrev pub readied : (anew : Bool) → Talk → Talk
readied anew t = record { passed = t.passed ++ opening anew; ahead = []; connected = true }

-- the first of the bytes
abbrev pub IsFront : List ℕ → List ℕ → Type 0
IsFront front bytes = (rest : List ℕ) × (bytes ≡ front ++ rest)

-- a front of the request was sent, nothing was received, and it failed
pub record IsCutOff (old new : Talk) (request : List ℕ) : Type 0 where
  pub anew : Bool
  pub front : List ℕ
  pub last : List Passed
  pub is_front : IsFront front request
  pub passed : new.passed ≡ old.passed ++ (exchange anew front [] ++ last)
  pub failed : IsFailure last

-- there is a connection in which no byte was seen to stand; or whatever was to be sent is cut off
abbrev pub Readies : Talk → Talk → Result Unit ChannelFault → Type 0
Readies old new (Ok u) = (anew : Bool) × (new ≡ readied anew old)
Readies old new (Err e) = (request : List ℕ) → IsCutOff old new request

-- the bytes were sent, or a front of them and the call failed
abbrev pub SendsAll : Talk → Talk → List ℕ → Result Unit ChannelFault → Type 0
SendsAll old new bytes (Ok u) = new ≡ with_sent old bytes
SendsAll old new bytes (Err e) =
    (front : List ℕ) × IsFront front bytes × (new ≡ with_failure (with_sent old front))

-- some of a text was sent, and the rest of it stands in the block
abbrev pub IsBegun : Talk → Talk → List ℕ → List ℕ → Type 0
IsBegun old new block text =
    (front : List ℕ) × (new ≡ with_sent old front) × (front ++ block ≡ text)

-- a line was appended to what stood in the block, of which some was sent; or what stood there was
-- sent in part, and the call failed
abbrev pub Adds : Talk → Talk → List ℕ → List ℕ → List ℕ → Result Unit ChannelFault → Type 0
Adds old new block now line (Ok u) = IsBegun old new now (block ++ line)
Adds old new block now line (Err e) = SendsAll old new block (Err e)

-- the whole request was sent over a connection in which no byte was seen to stand
abbrev pub Requests : Talk → Talk → List ℕ → Result Unit ChannelFault → Type 0
Requests old new request (Ok u) = (anew : Bool) × (new ≡ with_sent (readied anew old) request)
Requests old new request (Err e) = IsCutOff old new request

-- Answers

-- an LF stands nowhere but at the end
abbrev pub EndsAtLf : List ℕ → Type 0
EndsAtLf bytes = (k : ℕ) → k + 1 < length bytes → slice_index bytes k ≢ 10

-- these bytes are handed on, and then a call failed
abbrev pub FailsBehind : Talk → Talk → List ℕ → Type 0
FailsBehind old new got = (middle : Talk) × HandsOn old middle got × (new ≡ with_failure middle)

-- these bytes are handed on, and then perhaps a call failed
abbrev pub Takes : Talk → Talk → List ℕ → Result Unit ChannelFault → Type 0
Takes old new got (Ok u) = HandsOn old new got
Takes old new got (Err e) = FailsBehind old new got

-- some bytes were handed on, up to an LF and no more than there are in an answer
pub record IsAnswer (got done : List ℕ) : Type 0 where
  pub short : length got ≤ length done
  pub one : EndsAtLf got

-- what these bytes are, of the two answers that there are
abbrev pub IsSaid : List ℕ → List ℕ → List ℕ → AnswerState → Type 0
IsSaid got done failed heard.Done = got ≡ done
IsSaid got done failed heard.Failed = got ≡ failed
IsSaid got done failed heard.Broken = (got ≢ done) × (got ≢ failed)

-- what came after a request, over a connection that stays
abbrev pub Hears : Talk → Talk → List ℕ → List ℕ → AnswerState → Type 0
Hears old new done failed heard.Done = HandsOn old new done
Hears old new done failed heard.Failed = HandsOn old new failed
Hears old new done failed heard.Broken =
    (got : List ℕ) × IsAnswer got done
    × (FailsBehind old new got ⊎ (HandsOn old new got × (got ≢ done) × (got ≢ failed)))

-- The request failed, and there is no connection any more: a front of it was sent and some
-- bytes were received behind it, of which the first are taken for an answer; and a call of the
-- channel failed, or bytes stood in the connection, or the whole request was sent and what was
-- taken is no answer.
pub record BreaksOff (old new : Talk) (request done failed : List ℕ) : Type 0 where
  pub anew : Bool
  pub front : List ℕ
  pub more : List ℕ
  pub got : List ℕ
  pub last : List Passed
  pub is_front : IsFront front request
  pub is_first : IsFront got more
  pub passed : new.passed ≡ old.passed ++ (exchange anew front more ++ last)
  pub answer : IsAnswer got done
  pub unconnected : new.connected ≡ false
  pub failure : IsFailure last
      ⊎ ((last ≡ []) × (front ≡ request) × (got ≢ done) × (got ≢ failed))

-- The whole request was sent over a connection in which no byte was seen to stand, and all bytes
-- that were received before were handed on; behind it this answer was received over the same
-- connection, which stays, and with the answer what now stands ahead. No call of the channel
-- failed.
pub record IsAnsweredBy (old new : Talk) (request answer : List ℕ) : Type 0 where
  pub anew : Bool
  pub passed : new.passed ≡ old.passed ++ exchange anew request (answer ++ new.ahead)
  pub connected : new.connected ≡ true

-- what became of a request that has these two answers
abbrev pub Answers : Talk → Talk → List ℕ → List ℕ → List ℕ → Result Unit SinkFault → Type 0
Answers old new request done failed (Ok u) = IsAnsweredBy old new request done
Answers old new request done failed (Err fault.Refused) = IsAnsweredBy old new request failed
Answers old new request done failed (Err fault.Broken) = BreaksOff old new request done failed

-- what becomes of a request that was sent
abbrev pub Settles : Talk → Talk → List ℕ → List ℕ → Result Unit SinkFault → Type 0
Settles middle new done failed (Ok u) = HandsOn middle new done
Settles middle new done failed (Err fault.Refused) = HandsOn middle new failed
Settles middle new done failed (Err fault.Broken) =
    (last : Talk) × Hears middle last done failed heard.Broken × (new ≡ without_connection last)

-- what becomes of one that was sent or cut off
abbrev pub Concludes : Talk → Talk → List ℕ → List ℕ → Result Unit ChannelFault
    → Result Unit SinkFault → Type 0
Concludes middle new done failed (Ok u) result = Settles middle new done failed result
Concludes middle new done failed (Err f) (Ok u) = ⊥
Concludes middle new done failed (Err f) (Err e) = (e ≡ fault.Broken)
    × (new ≡ without_connection middle)
