-- A step that a list of tests may refuse, where what holds of a refusal depends on which one it is.
use Rattle.std.proofs.Common.{◌≡◌, Bool, true, false, List, [], ◌∷◌}
use Rattle.std.proofs.lemmas.Bool.{cond_both}
use Rattle.iova_range.specs.declared.refusal.Refusal.{Refusal}
use Rattle.iova_model.specs.State.{State}
use Rattle.iova_model.specs.Next.{Next, refuse_step, unless}
use Rattle.iova_model.proofs.Unless.{AllFail}

-- it holds of each refusal whose test is the first to pass
abbrev pub EachRefusal : (Next → Type 0) → State → List (Bool × Refusal) → Type 0
EachRefusal P s [] = Unit {0}
EachRefusal P s ((b, r) ∷ tests) = (b ≡ true → P (refuse_step r s)) × (b ≡ false → EachRefusal P s tests)

-- what holds of each refusal, and of the step where all tests fail, holds
pub unless_each : (P : Next → Type 0) (s : State) (tests : List (Bool × Refusal)) (n : Next) → EachRefusal P s tests → (AllFail tests → P n) → P (unless tests s n)
unless_each P s [] n each is_taken = is_taken tt
unless_each P s ((b, r) ∷ tests) n each is_taken =
    cond_both b (refuse_step r s) (unless tests s n) P each.0 (λ e. unless_each P s tests n (each.1 e) (λ all. is_taken (e, all)))
