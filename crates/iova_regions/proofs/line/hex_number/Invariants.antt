use Rattle.std.proofs.Common.{◌≡◌, ◌*◌, ◌^◌, ◌<◌, take}
use Rattle.iova_regions.specs.Text.{hex_digits}
use Rattle.iova_regions.proofs.line.hex_number.Given as goal

abbrev pub invariant-loop-byte : goal.invariant-loop-byte
invariant-loop-byte l = record {
  digits : take l.byte-index l.digits ≡ hex_digits l.byte-index l.n;
  fits : l.n < 2 ^ (4 * l.byte-index);
}
