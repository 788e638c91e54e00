use Rattle.std.proofs.Common.{◌-◌, ◌≤◌, length}
use Rattle.iova_sink.specs.Channels.{HandsOn}
use Rattle.iova_sink.proofs.Talks.{HasNone}
use Rattle.iova_sink.proofs.asking.receive_line.Given as goal

abbrev pub invariant-loop-byte : goal.invariant-loop-byte
invariant-loop-byte g l = record {
  received : HandsOn (g.C.Channel.talk l.initial.channel) (g.C.Channel.talk l.channel) l.got.items;
  none : HasNone l.got.items;
  short : length l.got.items ≤ l.limit;
}

-- the bytes for which there is room
abbrev pub decreases-loop-byte : goal.decreases-loop-byte
decreases-loop-byte g l = l.limit - length l.got.items
