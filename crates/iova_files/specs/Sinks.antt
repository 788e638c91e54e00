-- The sinks of a daemon: one of two kinds, and what was opened at a place.
use Rattle.std.specs.Prelude.{ℕ, ◌≡◌, List, [], Option, Some, None, codes}
use Rattle.iova_command.specs.declared.sink_path.SinkPath.{SinkPath}
use Rattle.iova_command.specs.declared.sink_path.SinkPath.TheVariants as place
use Rattle.iova_sink.specs.Calls.{Call}
use Rattle.iova_sink.specs.Channels.{Asking, IsAnsweredBy, Talk}
use Rattle.iova_sink.specs.Devices.{RecordSinkState}
use Rattle.iova_sink.specs.Records.{done_line, reset_line}
use Rattle.iova_files.specs.declared.sinks.EitherSink.{EitherSink}
use Rattle.iova_files.specs.declared.sinks.EitherSink.TheVariants as either

-- the calls of the sink that it is
abbrev pub either_calls : {A B : Type 0} → (A → List Call) → (B → List Call) → EitherSink A B
    → List Call
either_calls first second (either.First sink) = first sink
either_calls first second (either.Second sink) = second sink

-- the last that a peer was asked for is the reset of this domain, which it answered as done; where
-- there is none, nothing is said
abbrev pub HasReset : Option ℕ → Talk → Type 0
HasReset None talk = Unit
HasReset (Some domain) talk =
    (before : Talk) × IsAnsweredBy before talk (reset_line domain)
    (done_line (codes "reset") domain)

-- What is opened where flushes go: of a file a device for its records, of a peer a channel to it,
-- over which it has answered the reset. No call was made of either.
abbrev pub IsOpened : {D : Type 0} → SinkPath → Option ℕ
    → EitherSink (RecordSinkState D) (Asking Talk) → Type 0
IsOpened (place.File path) reset (either.First sink) = sink.calls ≡ []
IsOpened (place.File path) reset (either.Second sink) = ⊥
IsOpened (place.Peer path) reset (either.First sink) = ⊥
IsOpened (place.Peer path) reset (either.Second sink) =
    (sink.calls ≡ []) × HasReset reset sink.channel
