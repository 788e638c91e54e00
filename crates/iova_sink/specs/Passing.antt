-- What passes over a channel.
use Rattle.std.specs.Prelude.{ℕ, List, [], ◌∷◌, ◌++◌, Option, Some, None, map}
use Rattle.std.specs.declared.snapshot.Snapshot.{Snapshot}
use Rattle.iova_sink.specs.declared.history.Passed.{Passed}
use Rattle.iova_sink.specs.declared.history.Passed.TheVariants as passed

-- what passed, kept as a snapshot of all before the last
abbrev pub passed_after : Option (Snapshot (List Passed)) → Passed → List Passed
passed_after None last = []
passed_after (Some before) last = before.value ++ last ∷ []

-- one thing more
abbrev pub with_one : List Passed → Passed → List Passed
with_one ps p = ps ++ p ∷ []

-- bytes that were sent, and bytes that were received
abbrev pub sent_bytes : List ℕ → List Passed
sent_bytes bytes = map passed.Sent bytes

abbrev pub received_bytes : List ℕ → List Passed
received_bytes bytes = map passed.Received bytes

abbrev pub with_sent_bytes : List Passed → List ℕ → List Passed
with_sent_bytes ps bytes = ps ++ sent_bytes bytes

abbrev pub with_received_bytes : List Passed → List ℕ → List Passed
with_received_bytes ps bytes = ps ++ received_bytes bytes

-- all bytes that were sent
abbrev pub sent_of : List Passed → List ℕ
sent_of [] = []
sent_of (passed.Connected ∷ ps) = sent_of ps
sent_of (passed.Sent b ∷ ps) = b ∷ sent_of ps
sent_of (passed.Received b ∷ ps) = sent_of ps
sent_of (passed.Strayed ∷ ps) = sent_of ps
sent_of (passed.Failed ∷ ps) = sent_of ps

-- all bytes that were received
abbrev pub received_of : List Passed → List ℕ
received_of [] = []
received_of (passed.Connected ∷ ps) = received_of ps
received_of (passed.Sent b ∷ ps) = received_of ps
received_of (passed.Received b ∷ ps) = b ∷ received_of ps
received_of (passed.Strayed ∷ ps) = received_of ps
received_of (passed.Failed ∷ ps) = received_of ps

-- the bytes of a connection that were read and not handed on yet, where there is one
abbrev pub ahead_of : Option (List ℕ) → List ℕ
ahead_of None = []
ahead_of (Some ahead) = ahead
