-- One request more.
use Rattle.std.proofs.Common.{ℕ, ◌≡◌, ◌+◌, ◌≤◌, List, [], ◌∷◌, ◌++◌, Option, Some, None, refl, arith}
use Rattle.iova_range.specs.declared.limits.TheConstants.{MAX_LISTED}
use Rattle.iova_proto.specs.declared.answer.Answer.{Answer}
use Rattle.iova_proto.specs.declared.answer.Answer.TheVariants as answer
use Rattle.iova_proto.specs.declared.request.Request.{Request}
use Rattle.iova_proto.specs.declared.request.Request.TheVariants as request
use Rattle.iova_session.specs.Pairs.{Pair}
use Rattle.iova_session.specs.Desks.{next_client, count_listed, client_after, listed_after, AreAnswers, IsAnswer}

pub client_after_more : (client : Option ℕ) (ps : List Pair) (p : Pair) → client_after client (ps ++ p ∷ []) ≡ next_client (client_after client ps) p.answer
unfolding client_after
client_after_more client [] p = refl
client_after_more client (q ∷ ps) p = client_after_more (next_client client q.answer) ps p

pub listed_after_more : (listed : ℕ) (ps : List Pair) (p : Pair) → listed_after listed (ps ++ p ∷ []) ≡ listed_after listed ps + count_listed p.answer
unfolding listed_after
listed_after_more listed [] p = refl
listed_after_more listed (q ∷ ps) p = listed_after_more (listed + count_listed q.answer) ps p

pub answers_more : (number : ℕ) (client : Option ℕ) (listed : ℕ) (ps : List Pair) (p : Pair) → AreAnswers number client listed ps
    → IsAnswer number (client_after client ps) (listed_after listed ps) p.request p.answer → AreAnswers number client listed (ps ++ p ∷ [])
unfolding client_after listed_after AreAnswers
answers_more number client listed [] p h a = (a, tt)
answers_more number client listed (q ∷ ps) p h a = (h.0, answers_more number (next_client client q.answer) (listed + count_listed q.answer) ps p h.1 a)

-- what a list may have keeps the limit
pub list_fits : (number : ℕ) (client : Option ℕ) (listed : ℕ) (r : Request) (a : Answer) → listed ≤ MAX_LISTED → IsAnswer number client listed r a → listed + count_listed a ≤ MAX_LISTED
list_fits number (Some id) listed request.List (answer.Held ranges) fits h = h.0
list_fits number (Some id) listed (request.Hello domain sac) (answer.Held ranges) fits h = absurd cc
list_fits number (Some id) listed request.Bye (answer.Held ranges) fits h = absurd cc
list_fits number (Some id) listed r (answer.Held ranges) fits h = absurd h
list_fits number None listed (request.Hello domain sac) (answer.Held ranges) fits h = absurd h
list_fits number None listed r (answer.Held ranges) fits h = absurd cc
list_fits number client listed r a fits h = omega (arith, fits)
