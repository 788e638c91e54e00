use Rattle.std.proofs.Common.{length, take, ◌-◌, ◌≡◌, ◌≤◌, true}
use Rattle.std.specs.List.{list_all}
use Rattle.iova_text.specs.Reading.{is_not_space}
use Rattle.iova_text.proofs.words.first_word.Given as goal

abbrev pub invariant-loop-len : goal.invariant-loop-len
invariant-loop-len l = record {
  within : l.len ≤ length l.line;
  word : list_all is_not_space (take l.len l.line) ≡ true;
}

abbrev pub decreases-loop-len : goal.decreases-loop-len
decreases-loop-len l = length l.line - l.len
