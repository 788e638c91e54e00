use Rattle.std.proofs.Common.{◌≡◌, true, take}
use Rattle.std.specs.Char.{is_ascii_digit}
use Rattle.std.specs.List.{list_all}
use Rattle.iova_check.proofs.trace.are_digits.Given as goal

-- all so far are digits
abbrev pub invariant-loop-digit : goal.invariant-loop-digit
invariant-loop-digit l = list_all is_ascii_digit (take l.digit-index l.digits) ≡ true
