-- The numbers of a header in each version.
use Rattle.std.proofs.Common.{◌≡◌, ℕ, ◌==◌, [], ◌∷◌, ap}
use Rattle.std.proofs.lemmas.Bool.{cond-true, cond-false}
use Rattle.iova_range.specs.Bounds.{Capacities, Extent, first_profile, second_profile}
use Rattle.iova_line.specs.Text.{header_numbers}

pub header_numbers-first : (b : Extent) (w : ℕ) → b.profile ≡ first_profile → header_numbers b w ≡ 1 ∷ b.start ∷ b.last ∷ w ∷ []
header_numbers-first b w e = cond-true (b.profile.mag == 128) _ _ (ap (λ (p : Capacities). p.mag == 128) e)

pub header_numbers-second : (b : Extent) (w : ℕ) → b.profile ≡ second_profile b.profile.depot
    → header_numbers b w ≡ 2 ∷ b.start ∷ b.last ∷ w ∷ b.profile.depot ∷ []
header_numbers-second b w e = cond-false (b.profile.mag == 128) _ _ (ap (λ (p : Capacities). p.mag == 128) e)
