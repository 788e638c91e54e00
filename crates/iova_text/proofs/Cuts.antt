-- A run of bytes that pass a test is cut off in one way.
use Rattle.std.proofs.Common.{◌≡◌, ℕ, ◌+◌, ◌-◌, ◌<◌, ◌≤◌, Bool, true, false, List, [], ◌∷◌, ◌++◌, length, take, drop, get_or, refl, sym, ap, ◌∙◌, arith, length-drop, map, decimal}
use Rattle.std.specs.List.{list_all}
use Rattle.std.proofs.lemmas.List.{append-nil, append_assoc, map_more, take_more, take_all, drop_all, take-append-drop}
use Rattle.std.proofs.lemmas.Bool.{and_parts, and_from, not-true, not_from_false, both_ways}
use Rattle.std.proofs.Math.Seq.{drop-cons}
use Rattle.iova_text.specs.Reading.{stops, is_not_space}
use Rattle.iova_text.specs.Words.{spaced_words}

pub list_all-append : (p : ℕ → Bool) (xs ys : List ℕ) → list_all p xs ≡ true → list_all p ys ≡ true → list_all p (xs ++ ys) ≡ true
list_all-append p [] ys a b = b
list_all-append p (x ∷ xs) ys a b =
    let parts = and_parts (p x) (list_all p xs) a in and_from (p x) (list_all p (xs ++ ys)) parts.0 (list_all-append p xs ys parts.1 b)

pub list_all-right : (p : ℕ → Bool) (xs ys : List ℕ) → list_all p (xs ++ ys) ≡ true → list_all p ys ≡ true
list_all-right p [] ys a = a
list_all-right p (x ∷ xs) ys a = list_all-right p xs ys (and_parts (p x) (list_all p (xs ++ ys)) a).1

-- one more byte that passes
pub list_all-more : (p : ℕ → Bool) (xs : List ℕ) (i : ℕ) → i < length xs → list_all p (take i xs) ≡ true → p (get_or xs i 0) ≡ true
    → list_all p (take (i + 1) xs) ≡ true
list_all-more p xs i lt a b =
    rw (take_more xs i 0 lt) (list_all-append p (take i xs) (get_or xs i 0 ∷ []) a (and_from (p (get_or xs i 0)) true b refl))

-- where the bytes end or one does not pass, they stop
pub stops-at_end : (p : ℕ → Bool) (xs : List ℕ) (i : ℕ) → length xs ≤ i → stops p (drop i xs) ≡ true
stops-at_end p xs i le = rw (drop_all i xs le) refl

pub stops-at : (p : ℕ → Bool) (xs : List ℕ) (i : ℕ) → i < length xs → p (get_or xs i 0) ≡ false → stops p (drop i xs) ≡ true
stops-at p xs i lt fails = rw (drop-cons xs i 0 lt) (not_from_false (p (get_or xs i 0)) fails)

-- a front that passes lies in the whole run of bytes that pass
pub run_front : (p : ℕ → Bool) (xs ys us vs : List ℕ) → list_all p xs ≡ true → list_all p us ≡ true → stops p vs ≡ true
    → xs ++ ys ≡ us ++ vs → (zs : List ℕ) × (us ≡ xs ++ zs) × (ys ≡ zs ++ vs)
run_front p [] ys us vs a b stop e = (us, refl, e)
run_front p (x ∷ xs) ys [] [] a b stop e = absurd (cc)
run_front p (x ∷ xs) ys [] (v ∷ vs) a b stop e =
    let same : x ≡ v = cc in
    absurd (both_ways (p v) (not-true (p v) stop) (ap p (sym same) ∙ (and_parts (p x) (list_all p xs) a).0))
run_front p (x ∷ xs) ys (u ∷ us) vs a b stop e =
    let head : x ≡ u = cc in
    let tail : xs ++ ys ≡ us ++ vs = cc in
    let r = run_front p xs ys us vs (and_parts (p x) (list_all p xs) a).1 (and_parts (p u) (list_all p us) b).1 stop tail in
    let first : us ≡ xs ++ r.0 = r.1 in
    (r.0, cc, r.2)

-- and where it stops there too, it is the run
pub run_once : (p : ℕ → Bool) (xs ys us vs : List ℕ) → list_all p xs ≡ true → stops p ys ≡ true → list_all p us ≡ true → stops p vs ≡ true
    → xs ++ ys ≡ us ++ vs → (xs ≡ us) × (ys ≡ vs)
run_once p xs ys us vs a end b stop e = let r = run_front p xs ys us vs a b stop e in split r.0 r.1 r.2
  where
    split : (zs : List ℕ) → us ≡ xs ++ zs → ys ≡ zs ++ vs → (xs ≡ us) × (ys ≡ vs)
    split [] f g = (sym (f ∙ append-nil xs), g)
    split (z ∷ zs) f g =
        let pass = (and_parts (p z) (list_all p zs) (list_all-right p xs (z ∷ zs) (sym (ap (list_all p) f) ∙ b))).0 in
        let fail = not-true (p z) (sym (ap (stops p) g) ∙ end) in
        absurd (both_ways (p z) fail pass)

-- `&xs[i..]`
pub rest_from : (xs : List ℕ) (i : ℕ) → take (length xs - i) (drop i xs) ≡ drop i xs
rest_from xs i = take_all (length xs - i) (drop i xs) (omega (arith, length-drop i xs))

-- and what it was cut from
pub cut_at : (xs : List ℕ) (i : ℕ) → xs ≡ take i xs ++ take (length xs - i) (drop i xs)
cut_at xs i = rw (rest_from xs i) (sym (take-append-drop i xs))

pub first_and_rest : (xs : List ℕ) → 0 < length xs → xs ≡ get_or xs 0 0 ∷ take (length xs - 1) (drop 1 xs)
first_and_rest [] lt = absurd (omega arith)
first_and_rest (x ∷ xs) lt = cut_at (x ∷ xs) 1

pub spaced_words-append : (xs ys : List (List ℕ)) → spaced_words (xs ++ ys) ≡ spaced_words xs ++ spaced_words ys
spaced_words-append [] ys = refl
spaced_words-append (x ∷ xs) ys =
    ap (λ (t : List ℕ). 32 ∷ (x ++ t)) (spaced_words-append xs ys) ∙ ap (λ (t : List ℕ). 32 ∷ t) (sym (append_assoc x (spaced_words xs) (spaced_words ys)))

-- one more word
pub spaced_words-more : (front : List ℕ) (ns : List ℕ) (i : ℕ) → i < length ns
    → ((front ++ spaced_words (map decimal (take i ns))) ++ (32 ∷ [])) ++ decimal (get_or ns i 0) ≡ front ++ spaced_words (map decimal (take (i + 1) ns))
spaced_words-more front ns i lt =
    rw (map_more decimal ns i 0 lt, spaced_words-append (map decimal (take i ns)) (decimal (get_or ns i 0) ∷ []), append-nil (decimal (get_or ns i 0)))
    (simp append_assoc)

-- a word ends where others follow it, or none
pub stops-spaced_words : (ws : List (List ℕ)) → stops is_not_space (spaced_words ws) ≡ true
stops-spaced_words [] = refl
stops-spaced_words (w ∷ ws) = refl
