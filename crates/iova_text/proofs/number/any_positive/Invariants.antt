use Rattle.std.proofs.Common.{length, take, ◌-◌, ◌≡◌, ◌≤◌, ◌<◌, ◌^◌, true}
use Rattle.std.specs.Char.{is_ascii_digit}
use Rattle.std.specs.List.{list_all}
use Rattle.iova_text.proofs.Digits.{read_on}
use Rattle.iova_text.proofs.number.any_positive.Given as goal

abbrev pub invariant-loop-len : goal.invariant-loop-len
invariant-loop-len l = record {
  within : l.len ≤ length l.text;
  digits : list_all is_ascii_digit (take l.len l.text) ≡ true;
  fits : l.n < 2 ^ 64;
  value : l.n ≡ read_on 0 (take l.len l.text);
}

abbrev pub decreases-loop-len : goal.decreases-loop-len
decreases-loop-len l = length l.text - l.len
