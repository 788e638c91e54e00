-- A step has one spelling, and a spelling one step.
use Rattle.std.proofs.Common.{ℕ, ◌≡◌, ◌+◌, ◌*◌, Bool, true, false, List, [], ◌∷◌, ◌++◌, length, get_or, decimal, refl, sym, ap, ◌∙◌, arith}
use Rattle.std.specs.List.{list_all}
use Rattle.iova_text.specs.Reading.{is_not_space}
use Rattle.iova_text.specs.Words.{spaced_words, kind_text}
use Rattle.iova_text.proofs.Cuts.{run_once, stops-spaced_words}
use Rattle.iova_text.proofs.WordTexts.{same_front, same_kind}
use Rattle.iova_model.specs.declared.step.Step.{Step}
use Rattle.iova_model.specs.declared.step.Step.TheVariants as step
use Rattle.iova_line.specs.Text.{verb_text, verb_of, outcome_text, arguments_of, step_text, NumbersFit}

-- The verb is known by its first byte and its length.

abbrev key : List ℕ → ℕ
key text = get_or text 0 0 * 16 + length text

abbrev key_of : Step → ℕ
key_of (step.Reserve lo hi) = 1831
key_of (step.Open worker sac) = 1780
key_of (step.Alloc worker client frames limit) = 1557
key_of (step.Unmap worker client lo) = 1877
key_of step.Begin = 1573
key_of (step.End number ok) = 1619
key_of (step.Drain ring by) = 1605
key_of (step.Close worker client) = 1589
key_of (step.CloseOne worker client) = 1592

key-is : (s : Step) → key (verb_text (verb_of s)) ≡ key_of s
key-is (step.Reserve lo hi) = refl
key-is (step.Open worker sac) = refl
key-is (step.Alloc worker client frames limit) = refl
key-is (step.Unmap worker client lo) = refl
key-is step.Begin = refl
key-is (step.End number ok) = refl
key-is (step.Drain ring by) = refl
key-is (step.Close worker client) = refl
key-is (step.CloseOne worker client) = refl

no_space_verb : (s : Step) → list_all is_not_space (verb_text (verb_of s)) ≡ true
no_space_verb (step.Reserve lo hi) = refl
no_space_verb (step.Open worker sac) = refl
no_space_verb (step.Alloc worker client frames limit) = refl
no_space_verb (step.Unmap worker client lo) = refl
no_space_verb step.Begin = refl
no_space_verb (step.End number ok) = refl
no_space_verb (step.Drain ring by) = refl
no_space_verb (step.Close worker client) = refl
no_space_verb (step.CloseOne worker client) = refl

same_outcome : (a b : Bool) → outcome_text a ++ [] ≡ outcome_text b ++ [] → a ≡ b
same_outcome true true e = refl
same_outcome true false e = absurd (omega (arith, ap (λ (x : List ℕ). get_or x 0 0) e))
same_outcome false true e = absurd (omega (arith, ap (λ (x : List ℕ). get_or x 0 0) e))
same_outcome false false e = refl

same_arguments : (s t : Step) → NumbersFit s → NumbersFit t → key_of s ≡ key_of t → spaced_words (arguments_of s) ≡ spaced_words (arguments_of t) → s ≡ t
same_arguments (step.Reserve lo hi) (step.Reserve first last) a b k e =
    let r = same_front lo first (decimal hi ∷ []) (decimal last ∷ []) a.0 b.0 e in
    let q = same_front hi last [] [] a.1 b.1 r.1 in
    let one : lo ≡ first = r.0 in
    let two : hi ≡ last = q.0 in
    cc
same_arguments (step.Open worker sac) (step.Open other kind) a b k e =
    let r = same_front worker other (kind_text sac ∷ []) (kind_text kind ∷ []) a b e in
    let one : worker ≡ other = r.0 in
    let kinds : 32 ∷ (kind_text sac ++ []) ≡ 32 ∷ (kind_text kind ++ []) = r.1 in
    let two : sac ≡ kind = same_kind sac kind (cc) in
    cc
same_arguments (step.Alloc worker client frames limit) (step.Alloc w c f l) a b k e =
    let r = same_front worker w (decimal client ∷ decimal frames ∷ decimal limit ∷ []) (decimal c ∷ decimal f ∷ decimal l ∷ []) a.0 b.0 e in
    let q = same_front client c (decimal frames ∷ decimal limit ∷ []) (decimal f ∷ decimal l ∷ []) a.1 b.1 r.1 in
    let p = same_front frames f (decimal limit ∷ []) (decimal l ∷ []) a.2 b.2 q.1 in
    let o = same_front limit l [] [] a.3 b.3 p.1 in
    let one : worker ≡ w = r.0 in
    let two : client ≡ c = q.0 in
    let three : frames ≡ f = p.0 in
    let four : limit ≡ l = o.0 in
    cc
same_arguments (step.Unmap worker client lo) (step.Unmap w c first) a b k e =
    let r = same_front worker w (decimal client ∷ decimal lo ∷ []) (decimal c ∷ decimal first ∷ []) a.0 b.0 e in
    let q = same_front client c (decimal lo ∷ []) (decimal first ∷ []) a.1 b.1 r.1 in
    let p = same_front lo first [] [] a.2 b.2 q.1 in
    let one : worker ≡ w = r.0 in
    let two : client ≡ c = q.0 in
    let three : lo ≡ first = p.0 in
    cc
same_arguments step.Begin step.Begin a b k e = refl
same_arguments (step.End number ok) (step.End other good) a b k e =
    let r = same_front number other (outcome_text ok ∷ []) (outcome_text good ∷ []) a b e in
    let one : number ≡ other = r.0 in
    let outcomes : 32 ∷ (outcome_text ok ++ []) ≡ 32 ∷ (outcome_text good ++ []) = r.1 in
    let two : ok ≡ good = same_outcome ok good (cc) in
    cc
same_arguments (step.Drain ring by) (step.Drain q w) a b k e =
    let r = same_front ring q (decimal by ∷ []) (decimal w ∷ []) a.0 b.0 e in
    let p = same_front by w [] [] a.1 b.1 r.1 in
    let one : ring ≡ q = r.0 in
    let two : by ≡ w = p.0 in
    cc
same_arguments (step.Close worker client) (step.Close w c) a b k e =
    let r = same_front worker w (decimal client ∷ []) (decimal c ∷ []) a.0 b.0 e in
    let q = same_front client c [] [] a.1 b.1 r.1 in
    let one : worker ≡ w = r.0 in
    let two : client ≡ c = q.0 in
    cc
same_arguments (step.CloseOne worker client) (step.CloseOne w c) a b k e =
    let r = same_front worker w (decimal client ∷ []) (decimal c ∷ []) a.0 b.0 e in
    let q = same_front client c [] [] a.1 b.1 r.1 in
    let one : worker ≡ w = r.0 in
    let two : client ≡ c = q.0 in
    cc
same_arguments s t a b k e = absurd (omega (arith, k))

pub same_step : (s t : Step) → NumbersFit s → NumbersFit t → step_text s ≡ step_text t → s ≡ t
same_step s t a b e =
    let cut = run_once is_not_space (verb_text (verb_of s)) (spaced_words (arguments_of s)) (verb_text (verb_of t)) (spaced_words (arguments_of t))
    (no_space_verb s) (stops-spaced_words (arguments_of s)) (no_space_verb t) (stops-spaced_words (arguments_of t)) e in
    same_arguments s t a b (sym (key-is s) ∙ (ap key cut.0 ∙ key-is t)) cut.1
