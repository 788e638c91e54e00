use Rattle.std.proofs.Common.{◌≡◌, ◌++◌, take}
use Rattle.iova_text.proofs.buffer.put_word.Given as goal

abbrev pub invariant-loop-byte : goal.invariant-loop-byte
invariant-loop-byte g l = record {
  items : l.out.items ≡ l.initial.out.items ++ take l.byte-index l.word;
}
