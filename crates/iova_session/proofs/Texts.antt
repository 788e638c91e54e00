-- Lines and texts, one after another.
use Rattle.std.proofs.Common.{suc, ◌≡◌, ℕ, ◌+◌, ◌-◌, ◌≤◌, ◌<◌, get_or, refl, append-nil, List, [], ◌∷◌, ◌++◌, length, take, drop, sym, ap, ◌∙◌, subst, arith, take-append-drop, length-take, length-drop}
use Rattle.std.proofs.Math.Seq.{take-append-add, take-length}
use Rattle.std.proofs.lemmas.List.{take_more}
use Rattle.std.proofs.lemmas.Grind.{flat_map-append}
use Rattle.iova_proto.specs.Requests.{request_text}
use Rattle.iova_proto.specs.Answers.{answer_text}
use Rattle.iova_proto.specs.declared.answer.Answer.{Answer}
use Rattle.iova_proto.specs.declared.request.Request.{Request}
use Rattle.iova_session.specs.Pairs.{Pair, requests_of, answers_of, requests_text, answers_text}

pub take_plus : {A : Type 0} (xs : List A) (i n : ℕ) → i ≤ length xs → take (i + n) xs ≡ take i xs ++ take n (drop i xs)
take_plus {A} xs i n h =
    let whole : take i xs ++ drop i xs ≡ xs = take-append-drop i xs in
    let long : length (take i xs) ≡ i = omega (arith, length-take i xs) in
    subst (λ (x : List A). take (i + n) x ≡ take i xs ++ take n (drop i xs)) whole (subst (λ (k : ℕ). take (k + n) (take i xs ++ drop i xs) ≡ take i xs ++ take n (drop i xs)) long (take-append-add (take i xs) (drop i xs) n))

-- `&xs[i..]`
pub all_after : {A : Type 0} (xs : List A) (i : ℕ) → take (length xs - i) (drop i xs) ≡ drop i xs
all_after {A} xs i =
    subst (λ (k : ℕ). take k (drop i xs) ≡ drop i xs) (length-drop i xs) (take-length (drop i xs))

pub requests_text-append : (rs qs : List Request) → requests_text (rs ++ qs) ≡ requests_text rs ++ requests_text qs
unfolding requests_text
requests_text-append rs qs = flat_map-append request_text rs qs

pub requests_text-one : (r : Request) → requests_text (r ∷ []) ≡ request_text r
unfolding requests_text
requests_text-one r = append-nil (request_text r)

pub requests_text-nil : requests_text [] ≡ []
unfolding requests_text
requests_text-nil = refl

pub answers_text-append : (xs ys : List Answer) → answers_text (xs ++ ys) ≡ answers_text xs ++ answers_text ys
unfolding answers_text
answers_text-append xs ys = flat_map-append answer_text xs ys

pub answers_text-one : (a : Answer) → answers_text (a ∷ []) ≡ answer_text a
unfolding answers_text
answers_text-one a = append-nil (answer_text a)

pub answers_text-nil : answers_text [] ≡ []
unfolding answers_text
answers_text-nil = refl

-- the text of one answer more
pub answers_text-more : (xs : List Answer) (i : ℕ) (a : Answer) → i < length xs → a ≡ get_or xs i a
    → answers_text (take (i + 1) xs) ≡ answers_text (take i xs) ++ answer_text a
answers_text-more xs i a h e =
    ap answers_text (take_more xs i a h ∙ ap (λ x. take i xs ++ x ∷ []) (sym e))
    ∙ answers_text-append (take i xs) (a ∷ []) ∙ ap (λ x. answers_text (take i xs) ++ x) (answers_text-one a)

pub requests_of-append : (ps qs : List Pair) → requests_of (ps ++ qs) ≡ requests_of ps ++ requests_of qs
unfolding requests_of
requests_of-append [] qs = refl
requests_of-append (p ∷ ps) qs = ap (λ x. p.request ∷ x) (requests_of-append ps qs)

pub answers_of-append : (ps qs : List Pair) → answers_of (ps ++ qs) ≡ answers_of ps ++ answers_of qs
unfolding answers_of
answers_of-append [] qs = refl
answers_of-append (p ∷ ps) qs = ap (λ x. p.answer ∷ x) (answers_of-append ps qs)

pub length-asked : (ps : List Pair) → length (requests_of ps) ≡ length ps
unfolding requests_of
length-asked [] = refl
length-asked (p ∷ ps) = ap (λ n. suc n) (length-asked ps)

pub requests_of-nil : requests_of [] ≡ []
unfolding requests_of
requests_of-nil = refl

pub answers_of-nil : answers_of [] ≡ []
unfolding answers_of
answers_of-nil = refl

pub none_told : [] ≡ answers_text (answers_of [])
none_told = sym (ap answers_text answers_of-nil ∙ answers_text-nil)

pub asked_both : (ps qs : List Pair) → requests_text (requests_of (ps ++ qs)) ≡ requests_text (requests_of ps) ++ requests_text (requests_of qs)
asked_both ps qs = ap requests_text (requests_of-append ps qs) ∙ requests_text-append (requests_of ps) (requests_of qs)

pub told_both : (ps qs : List Pair) → answers_text (answers_of (ps ++ qs)) ≡ answers_text (answers_of ps) ++ answers_text (answers_of qs)
told_both ps qs = ap answers_text (answers_of-append ps qs) ∙ answers_text-append (answers_of ps) (answers_of qs)
