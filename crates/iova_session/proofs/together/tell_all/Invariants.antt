use Rattle.std.proofs.Common.{◌≡◌, ◌≤◌, ◌+◌, ◌++◌, length, drop, vec_len, vec_capacity}
use Rattle.std.specs.Prelude.{map}
use Rattle.iova_session.specs.Desks.{told_pairs, answer_of, AreTold}
use Rattle.iova_session.proofs.together.tell_all.Given as goal

abbrev pub invariant-loop-i : goal.invariant-loop-i
invariant-loop-i l = record {
  number : l.session.number ≡ l.initial.session.number;
  client : l.session.client ≡ l.initial.session.client;
  listed : l.session.listed ≡ l.initial.session.listed;
  pairs : l.session.pairs ++ told_pairs (drop l.i l.requests) (drop l.i l.told) ≡ l.initial.session.pairs ++ told_pairs l.requests l.told;
  answers : l.answers.items ++ map answer_of (drop l.i l.told) ≡ l.initial.answers.items ++ map answer_of l.told;
  told : AreTold (drop l.i l.requests) (drop l.i l.told);
  room : vec_len l.answers + length (drop l.i l.told) ≤ vec_capacity l.answers;
  kept : vec_capacity l.initial.answers ≤ vec_capacity l.answers;
}
