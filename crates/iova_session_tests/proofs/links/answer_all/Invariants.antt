use Rattle.std.proofs.Common.{◌≡◌, ◌+◌, ◌≤◌, ◌++◌, List, length, take, vec_len, vec_capacity}
use Rattle.iova_session.specs.Pairs.{Pair, requests_of, answers_of}
use Rattle.iova_session_tests.proofs.links.answer_all.Given as goal

abbrev pub invariant-loop-request : goal.invariant-loop-request
invariant-loop-request l = record {
  room : vec_len l.answers + length l.requests ≤ vec_capacity l.answers + l.request-index;
  ps : List Pair;
  pairs : l.pairs ≡ l.initial.pairs ++ ps;
  asked : requests_of ps ≡ take l.request-index l.requests;
  told : l.answers.items ≡ l.initial.answers.items ++ answers_of ps;
}
