-- What has several things appended, one after another.
use Rattle.std.proofs.Common.{ℕ, ◌≡◌, ◌∙◌, List, ◌++◌, ap, append_assoc}

pub two_appended : (o p q a b : List ℕ) → p ≡ o ++ a → q ≡ p ++ b → q ≡ o ++ (a ++ b)
two_appended o p q a b first second = second ∙ (ap (λ (x : List ℕ). x ++ b) first ∙ append_assoc o a b)

three_appended : (o p q r a b c : List ℕ) → p ≡ o ++ a → q ≡ p ++ b → r ≡ q ++ c → r ≡ o ++ (a ++ (b ++ c))
three_appended o p q r a b c first second third = two_appended o p r a (b ++ c) first (two_appended p q r b c second third)

four_appended : (o p q r s a b c d : List ℕ) → p ≡ o ++ a → q ≡ p ++ b → r ≡ q ++ c → s ≡ r ++ d → s ≡ o ++ (a ++ (b ++ (c ++ d)))
four_appended o p q r s a b c d first second third fourth = two_appended o p s a (b ++ (c ++ d)) first (three_appended p q r s b c d second third fourth)

pub five_appended : (o p q r s t a b c d e : List ℕ) → p ≡ o ++ a → q ≡ p ++ b → r ≡ q ++ c → s ≡ r ++ d → t ≡ s ++ e
    → t ≡ o ++ (a ++ (b ++ (c ++ (d ++ e))))
five_appended o p q r s t a b c d e first second third fourth fifth =
    two_appended o p t a (b ++ (c ++ (d ++ e))) first (four_appended p q r s t b c d e second third fourth fifth)
