use Rattle.std.proofs.Common.{take, ◌-◌, ◌≡◌, ◌≤◌, ◌<◌, ◌^◌, decimal}
use Rattle.iova_text.proofs.number.digits.Given as goal

abbrev pub invariant-loop-len : goal.invariant-loop-len
invariant-loop-len l = record {
  from : l.start ≤ l.len;
  to : l.len ≤ l.end;
  some : 0 < l.n;
  fits : l.n < 10 ^ l.len;
  spelled : take l.len l.text ≡ decimal l.n;
}

abbrev pub decreases-loop-len : goal.decreases-loop-len
decreases-loop-len l = l.end - l.len
