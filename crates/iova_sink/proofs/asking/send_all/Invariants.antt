use Rattle.std.proofs.Common.{◌-◌, ◌≡◌, ◌≤◌, length, take}
use Rattle.iova_sink.specs.Channels.{with_sent}
use Rattle.iova_sink.proofs.asking.send_all.Given as goal

abbrev pub invariant-loop-done : goal.invariant-loop-done
invariant-loop-done g l = record {
  within : l.done ≤ length l.bytes;
  sent : g.C.Channel.talk l.channel ≡ with_sent (g.C.Channel.talk l.initial.channel) (take l.done l.bytes);
}

-- the bytes that are left
abbrev pub decreases-loop-done : goal.decreases-loop-done
decreases-loop-done g l = length l.bytes - l.done
