-- What contracts see of the system's calls on connected sockets.
use Rattle.std.specs.Prelude.{ℕ, ◌≡◌, ◌≢◌, ◌<◌, List, [], ◌∷◌, ◌++◌, Option, Some, None, Result, Ok, Err, take, length, option_map, ⊤}
use Rattle.std.specs.Io.KnownBytes.{prepend_known, IsAtEnd}
use Rattle.iova_sink.specs.Passing.{with_sent_bytes, with_received_bytes}
use Rattle.iova_sink.specs.declared.channel.Incoming.{Incoming}
use Rattle.iova_sink.specs.declared.channel.Incoming.TheVariants as incoming
use Rattle.iova_sink.specs.declared.history.Passed.{Passed}

-- what the calls will still receive, what passed by them, oldest first, and what the looks among
-- them found, oldest first: each of them where it is known
pub record SocketState : Type 0 where
  pub left : Option (List ℕ)
  pub passed : Option (List Passed)
  pub found : Option (List Incoming)

-- These bytes were received, the first ones of those that were left, and nothing else passed.
pub record HandsOver (old new : SocketState) (bytes : List ℕ) : Type 0 where
  pub left : old.left ≡ prepend_known bytes new.left
  pub passed : new.passed ≡ option_map (λ ps. with_received_bytes ps bytes) old.passed
  pub found : new.found ≡ old.found

-- the first bytes of the buffer were received, none of some only at the end; or the call failed,
-- and nothing was
abbrev pub Reads : {E : Type 0} → SocketState → SocketState → List ℕ → Result ℕ E → Type 0
Reads old new buffer (Ok n) =
    HandsOver old new (take n buffer) × (n ≡ 0 → 0 < length buffer → IsAtEnd new.left)
Reads old new buffer (Err e) = new ≡ old

-- a front of the bytes was sent, or the call failed, and nothing was
abbrev pub Writes : {E : Type 0} → SocketState → SocketState → List ℕ → Result ℕ E → Type 0
Writes old new bytes (Ok n) =
    new ≡ record old { passed = option_map (λ ps. with_sent_bytes ps (take n bytes)) old.passed }
Writes old new bytes (Err e) = new ≡ old

-- what a look may find where these bytes are left
abbrev pub IsThere : Option (List ℕ) → Incoming → Type 0
IsThere left incoming.Nothing = ⊤
IsThere left incoming.Bytes = IsAtEnd left → left ≡ None
IsThere left incoming.End = IsAtEnd left

-- a look found this, or failed; nothing was received or sent
abbrev pub Finds : {E : Type 0} → SocketState → SocketState → Result Incoming E → Type 0
Finds old new (Ok incoming) =
    (new ≡ record old { found = option_map (λ fs. fs ++ incoming ∷ []) old.found })
    × IsThere old.left incoming
Finds old new (Err e) = new ≡ old

-- What stands in a connection of which these bytes were received ahead: they do, and where there
-- are none, what a look found.
abbrev pub FindsBehind : {E : Type 0} → List ℕ → SocketState → SocketState → Result Incoming E
    → Type 0
FindsBehind [] old new result = Finds old new result
FindsBehind (b ∷ ahead) old new result = (result ≡ Ok incoming.Bytes) × (new ≡ old)
