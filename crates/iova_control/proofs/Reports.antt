-- Numbers that are read in a report.
use Rattle.std.proofs.Common.{ℕ, ◌≡◌, ◌≢◌, ◌∙◌, ◌<◌, ◌^◌, List, [], ◌∷◌, ◌++◌, ap, ap₂, refl, sym, subst, decimal, drop, get_or, length, length-append, arith}
use Rattle.iova_control.specs.Infos.{first_line, IsCut}
use Rattle.iova_control.specs.Reports.{behind_spaces, IsField, NumberIn, here, later}

cancel : (xs a b : List ℕ) → xs ++ a ≡ xs ++ b → a ≡ b
cancel [] a b e = e
cancel (x ∷ xs) a b e = cancel xs a b (ap (drop 1) e)

same_front : (xs ys a b : List ℕ) → xs ++ a ≡ ys ++ b → length xs ≡ length ys → xs ≡ ys
same_front [] [] a b e long = refl
same_front [] (y ∷ ys) a b e long = absurd (omega (arith, long))
same_front (x ∷ xs) [] a b e long = absurd (omega (arith, long))
same_front (x ∷ xs) (y ∷ ys) a b e long =
    ap₂ (λ h t. h ∷ t) (ap (λ l. get_or l 0 0) e) (same_front xs ys a b (ap (drop 1) e) (omega (arith, long)))

-- a line that is shorter than a name, or begins otherwise, doesn't begin with it
pub unnamed_short : (line name : List ℕ) → length line < length name → (rest : List ℕ) → line ≡ name ++ rest → ⊥
unnamed_short line name short rest is = omega (arith, short, ap length is, length-append name rest)

pub unnamed_front : (line name front back : List ℕ) → line ≡ front ++ back → length front ≡ length name → (front ≡ name → ⊥)
    → (rest : List ℕ) → line ≡ name ++ rest → ⊥
unnamed_front line name front back cut long other rest is = other (same_front front name back rest (sym cut ∙ is) long)

-- a line with the name, a space and a number has that one
pub field_spelled : (name line rest digits text : List ℕ) (n : ℕ) → line ≡ name ++ rest → rest ≡ 32 ∷ digits → text ≡ behind_spaces digits
    → text ≡ decimal n → n < 2 ^ 64 → IsField name n line
field_spelled name line rest digits text n named spaced is spelled fits =
    (fits, (digits, named ∙ ap (λ t. name ++ t) spaced, sym is ∙ spelled))

-- and without one of them it has none
pub field_unnamed : (name line : List ℕ) → ((rest : List ℕ) → line ≡ name ++ rest → ⊥) → (n : ℕ) → IsField name n line → ⊥
field_unnamed name line none n field = none (32 ∷ field.1.0) field.1.1

pub field_unspaced : (name line rest : List ℕ) → line ≡ name ++ rest → ((more : List ℕ) → rest ≡ 32 ∷ more → ⊥) → (n : ℕ) → IsField name n line → ⊥
field_unspaced name line rest named none n field = none field.1.0 (cancel name rest (32 ∷ field.1.0) (sym named ∙ field.1.1))

pub field_unread : (name line rest digits text : List ℕ) → line ≡ name ++ rest → rest ≡ 32 ∷ digits → text ≡ behind_spaces digits
    → ((n : ℕ) → n < 2 ^ 64 → text ≢ decimal n) → (n : ℕ) → IsField name n line → ⊥
field_unread name line rest digits text named spaced is none n field =
    let same : rest ≡ 32 ∷ field.1.0 = cancel name rest (32 ∷ field.1.0) (sym named ∙ field.1.1) in
    none n field.0 (is ∙ ap behind_spaces (ap (drop 1) (sym spaced ∙ same)) ∙ field.1.2)

-- a report's first line has the number, or the rest has
pub number_in_first : (name report line more at word : List ℕ) (n : ℕ) → IsCut report line more → at ≡ line → word ≡ name → IsField word n at → NumberIn name report n
number_in_first name report line more at word n cut same is field =
    here report n (subst (λ w. IsField w n (first_line report)) is (subst (λ l. IsField word n l) (same ∙ cut.0) field))

pub number_later : (name report line more at word : List ℕ) (n : ℕ) → IsCut report line more → at ≡ line → word ≡ name
    → ((m : ℕ) → IsField word m at → ⊥) → NumberIn name more n → NumberIn name report n
number_later name report line more at word n cut same is none rest =
    later report n
    (subst (λ w. (m : ℕ) → IsField w m (first_line report) → ⊥) is (subst (λ l. (m : ℕ) → IsField word m l → ⊥) (same ∙ cut.0) none))
    (subst (λ t. NumberIn name t n) cut.1 rest)
