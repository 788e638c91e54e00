use Rattle.std.proofs.Common.{◌≡◌, take}
use Rattle.iova_sink.specs.Passing.{with_received_bytes}
use Rattle.iova_sink.proofs.history.History.add_received.Given as goal

abbrev pub invariant-loop-byte : goal.invariant-loop-byte
invariant-loop-byte l = l.self ≡ with_received_bytes l.initial.self (take l.byte-index l.bytes)
