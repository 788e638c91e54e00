-- The parts of a row of hands.
use Rattle.std.proofs.Common.{◌≡◌, ℕ, zero, suc, ◌+◌, List, [], ◌∷◌, ◌++◌, length, slice_get, Some, refl, ◌∙◌, subst, arith}
use Rattle.iova_annals.specs.Histories.{IsRow}

pub row_all : (hands : List ℕ) → IsRow hands 0 hands
row_all hands i d at = subst (λ (n : ℕ). slice_get hands n ≡ Some d) (omega arith) at

pub row_head : (hands : List ℕ) (first n : ℕ) (names : List ℕ) → IsRow hands first (n ∷ names) → (slice_get hands first ≡ Some n) × IsRow hands (first + 1) names
row_head hands first n names is =
    (subst (λ (k : ℕ). slice_get hands k ≡ Some n) (omega arith) (is 0 n refl), λ i d at. subst (λ (k : ℕ). slice_get hands k ≡ Some d) (omega arith) (is (suc i) d at))

pub row_parts : (hands : List ℕ) (first : ℕ) (xs ys : List ℕ) → IsRow hands first (xs ++ ys) → IsRow hands first xs × IsRow hands (first + length xs) ys
row_parts hands first [] ys is = ((λ i d at. absurd (cc at)), λ i d at. subst (λ (k : ℕ). slice_get hands k ≡ Some d) (omega arith) (is i d at))
row_parts hands first (x ∷ xs) ys is = let head : (slice_get hands first ≡ Some x) × IsRow hands (first + 1) (xs ++ ys) = row_head hands first x (xs ++ ys) is in
    let rest : IsRow hands (first + 1) xs × IsRow hands ((first + 1) + length xs) ys = row_parts hands (first + 1) xs ys head.1 in
    (joined head.0 rest.0, λ i d at. subst (λ (k : ℕ). slice_get hands k ≡ Some d) (omega arith) (rest.1 i d at))
  where
    joined : slice_get hands first ≡ Some x → IsRow hands (first + 1) xs → IsRow hands first (x ∷ xs)
    joined one more zero d at = subst (λ (k : ℕ). slice_get hands k ≡ Some d) (omega arith) (one ∙ at)
    joined one more (suc i) d at = subst (λ (k : ℕ). slice_get hands k ≡ Some d) (omega arith) (more i d at)
