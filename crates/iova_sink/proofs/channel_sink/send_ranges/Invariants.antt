use Rattle.std.proofs.Common.{◌++◌, take}
use Rattle.iova_sink.specs.Records.{ranges_text}
use Rattle.iova_sink.specs.Channels.{IsBegun}
use Rattle.iova_sink.proofs.channel_sink.send_ranges.Given as goal

-- what stood in the block and the lines of the first ranges are sent, but for what stands in the block
abbrev pub invariant-loop-range : goal.invariant-loop-range
invariant-loop-range g l =
    IsBegun (g.C.Channel.talk l.initial.channel) (g.C.Channel.talk l.channel) l.block.items (l.initial.block.items ++ ranges_text (take l.range-index l.ranges))
