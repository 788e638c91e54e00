-- Holdings that rise by first frame.
use Rattle.std.proofs.Common.{ℕ, ◌≤◌, List, [], ◌∷◌, arith}
use Rattle.iova_range.specs.Frames.{Frames}
use Rattle.iova_model.specs.Valid.{Rises}

-- a later start asks more
pub Rises-from : (low high : ℕ) (rs : List Frames) → low ≤ high → Rises high rs → Rises low rs
Rises-from low high [] le h = tt
Rises-from low high (r ∷ rs) le h = (omega (arith, h.0), h.1)
