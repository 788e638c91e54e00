-- What desks were asked and answered, one pair more.
use Rattle.std.proofs.Common.{◌≡◌, ◌+◌, ◌-◌, refl, List, [], ◌∷◌, ◌++◌, ap}
use Rattle.iova_session.specs.Pairs.{Pair, requests_of, answers_of}

pub requests_of-append : (ps qs : List Pair) → requests_of (ps ++ qs) ≡ requests_of ps ++ requests_of qs
unfolding requests_of
requests_of-append [] qs = refl
requests_of-append (p ∷ ps) qs = ap (λ x. p.request ∷ x) (requests_of-append ps qs)

pub answers_of-append : (ps qs : List Pair) → answers_of (ps ++ qs) ≡ answers_of ps ++ answers_of qs
unfolding answers_of
answers_of-append [] qs = refl
answers_of-append (p ∷ ps) qs = ap (λ x. p.answer ∷ x) (answers_of-append ps qs)

pub requests_of-nil : requests_of [] ≡ []
unfolding requests_of
requests_of-nil = refl

pub answers_of-nil : answers_of [] ≡ []
unfolding answers_of
answers_of-nil = refl

pub requests_of-one : (p : Pair) → requests_of (p ∷ []) ≡ p.request ∷ []
unfolding requests_of
requests_of-one p = refl

pub answers_of-one : (p : Pair) → answers_of (p ∷ []) ≡ p.answer ∷ []
unfolding answers_of
answers_of-one p = refl
