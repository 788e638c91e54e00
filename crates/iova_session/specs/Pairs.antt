-- Requests and their answers.
use Rattle.std.specs.Prelude.{ℕ, ◌≡◌, List, [], ◌∷◌, ◌++◌, Option, Some, None, map, flat_map, take}
use Rattle.std.specs.declared.snapshot.Snapshot.{Snapshot}
use Rattle.iova_proto.specs.declared.answer.Answer.{Answer}
use Rattle.iova_proto.specs.declared.request.Request.{Request}
use Rattle.iova_proto.specs.Answers.{answer_text}
use Rattle.iova_proto.specs.Requests.{request_text}

-- a request and its answer
pub record Pair : Type 0 where
  pub request : Request
  pub answer : Answer

-- one pair more
abbrev pub after_one : Option (Snapshot (List Pair)) → Snapshot Request → Snapshot Answer → List Pair
after_one None request answer = []
after_one (Some before) request answer =
    before.value ++ record { request = request.value; answer = answer.value } ∷ []

-- the requests, in their order
unfoldable pub requests_of : List Pair → List Request
requests_of ps = map (λ p. p.request) ps

-- the answers, in their order
unfoldable pub answers_of : List Pair → List Answer
answers_of ps = map (λ p. p.answer) ps

-- the lines of these requests
unfoldable pub requests_text : List Request → List ℕ
requests_text rs = flat_map request_text rs

-- the texts of these answers
unfoldable pub answers_text : List Answer → List ℕ
answers_text as_told = flat_map answer_text as_told

-- A front of so many of the requests was asked: their pairs stand after those before, and their
-- answers after those before.
abbrev pub AsksFront : ℕ → List Request → List Pair → List Pair → List Answer → List Answer → Type 0
AsksFront n requests old new before answers =
    (ps : List Pair) × (new ≡ old ++ ps) × (requests_of ps ≡ take n requests)
    × (answers ≡ before ++ answers_of ps)
