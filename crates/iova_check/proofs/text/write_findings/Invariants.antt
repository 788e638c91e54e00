use Rattle.std.proofs.Common.{◌≡◌, ◌*◌, ◌≤◌, take, length}
use Rattle.iova_check.specs.Output.{findings_text}
use Rattle.iova_check.proofs.text.write_findings.Given as goal

-- the lines of the findings so far, each of at most 105 bytes
abbrev pub invariant-loop-finding : goal.invariant-loop-finding
invariant-loop-finding l = record {
  is : l.text.items ≡ findings_text l.line (take l.finding-index l.findings);
  short : length l.text.items ≤ 105 * l.finding-index;
}
