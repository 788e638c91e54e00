use Rattle.std.proofs.Common.{◌≡◌, length, ◌-◌, ◌≤◌, take}
use Rattle.std.specs.Io.KnownBytes.{Appends}
use Rattle.iova_session.proofs.link.put_all.Given as goal

abbrev pub invariant-loop-done : goal.invariant-loop-done
invariant-loop-done g l = record {
  fits : l.done ≤ length l.bytes;
  sent : Appends (g.L.Link.sent l.initial.link) (g.L.Link.sent l.link) (take l.done l.bytes);
  left : g.L.Link.left l.link ≡ g.L.Link.left l.initial.link;
  reads : g.L.Link.reads l.link ≡ g.L.Link.reads l.initial.link;
  ends : g.L.Link.ends l.link ≡ g.L.Link.ends l.initial.link;
  failures : g.L.Link.failures l.link ≡ g.L.Link.failures l.initial.link;
}

abbrev pub decreases-loop-done : goal.decreases-loop-done
decreases-loop-done g l = length l.bytes - l.done
