-- Where flushes go, as words say it.
use Rattle.std.specs.Prelude.{◌≡◌, List, Some, None, codes}
use Rattle.clap.specs.Words.{Row, Text, first_of}
use Rattle.iova_command.specs.declared.sink_path.SinkPath.{SinkPath}
use Rattle.iova_command.specs.declared.sink_path.SinkPath.TheVariants.{Peer, File}

-- one of the two options alone is there: the socket of a peer, or a file
abbrev pub HasSink : List Row → SinkPath → Type 0
HasSink rows (Peer path) =
    (first_of (codes "peer") rows ≡ Some path.now) × (first_of (codes "sink") rows ≡ None)
HasSink rows (File path) =
    (first_of (codes "peer") rows ≡ None) × (first_of (codes "sink") rows ≡ Some path.now)

-- the path of either
abbrev pub IsPathOf : SinkPath → Text → Type 0
IsPathOf (Peer path) text = text ≡ path.now
IsPathOf (File path) text = text ≡ path.now
