-- A step that a list of tests may refuse.
use Rattle.std.proofs.Common.{◌≡◌, Bool, true, false, List, [], ◌∷◌, ◌++◌, Option, Some, None, refl}
use Rattle.std.proofs.lemmas.Bool.{cond_both}
use Rattle.iova_range.specs.declared.refusal.Refusal.{Refusal}
use Rattle.iova_model.specs.State.{State}
use Rattle.iova_model.specs.Next.{Next, refuse_step, unless, first_refusal}

-- none of the tests passes
abbrev pub AllFail : List (Bool × Refusal) → Type 0
AllFail [] = Unit {0}
AllFail ((b, r) ∷ tests) = (b ≡ false) × AllFail tests

-- what holds of each refusal, and of the step where all tests fail, holds
pub unless_cases : (P : Next → Type 0) (s : State) (tests : List (Bool × Refusal)) (n : Next) → ((r : Refusal) → P (refuse_step r s)) → (AllFail tests → P n) → P (unless tests s n)
unless_cases P s [] n is_refused is_taken = is_taken tt
unless_cases P s ((b, r) ∷ tests) n is_refused is_taken =
    cond_both b (refuse_step r s) (unless tests s n) P (λ e. is_refused r) (λ e. unless_cases P s tests n is_refused (λ all. is_taken (e, all)))

-- The step is refused by the first test that passes, and taken where none does.

-- what the refusal of the first test that passes makes of a step
abbrev pub refused_or : Option Refusal → State → Next → Next
refused_or None s n = n
refused_or (Some r) s n = refuse_step r s

refused_or_first : (b : Bool) (r : Refusal) (tests : List (Bool × Refusal)) (s : State) (n : Next) → unless tests s n ≡ refused_or (first_refusal tests) s n
    → unless ((b, r) ∷ tests) s n ≡ refused_or (first_refusal ((b, r) ∷ tests)) s n
refused_or_first true r tests s n rest = refl
refused_or_first false r tests s n rest = rest

pub unless-first_refusal : (tests : List (Bool × Refusal)) (s : State) (n : Next) → unless tests s n ≡ refused_or (first_refusal tests) s n
unless-first_refusal [] s n = refl
unless-first_refusal ((b, r) ∷ tests) s n = refused_or_first b r tests s n (unless-first_refusal tests s n)

pub unless_refused : (tests : List (Bool × Refusal)) (r : Refusal) (s : State) (n : Next) → first_refusal tests ≡ Some r → unless tests s n ≡ refuse_step r s
unless_refused tests r s n is = rw (unless-first_refusal tests s n, is) refl

pub unless_taken : (tests : List (Bool × Refusal)) (s : State) (n : Next) → first_refusal tests ≡ None → unless tests s n ≡ n
unless_taken tests s n is = rw (unless-first_refusal tests s n, is) refl

-- further tests are made where the first ones all fail
unless-append_first : (b : Bool) (r : Refusal) (tests more : List (Bool × Refusal)) (s : State) (n : Next) → unless (tests ++ more) s n ≡ unless tests s (unless more s n)
    → unless (((b, r) ∷ tests) ++ more) s n ≡ unless ((b, r) ∷ tests) s (unless more s n)
unless-append_first true r tests more s n rest = refl
unless-append_first false r tests more s n rest = rest

pub unless-append : (tests more : List (Bool × Refusal)) (s : State) (n : Next) → unless (tests ++ more) s n ≡ unless tests s (unless more s n)
unless-append [] more s n = refl
unless-append ((b, r) ∷ tests) more s n = unless-append_first b r tests more s n (unless-append tests more s n)
