use Rattle.std.proofs.Common.{◌≡◌, ◌+◌, ◌-◌}
use Rattle.std.specs.Prelude.{nat_le, slice_index}
use Rattle.iova_model.specs.Fit.{greatest}
use Rattle.iova_model.specs.Caches.{fitting}
use Rattle.iova_mag.proofs.magazine.fitting_place.Given as goal

-- what is sought lies below, if it is there
abbrev pub invariant-loop-place : goal.invariant-loop-place
invariant-loop-place l = greatest (λ k. nat_le (slice_index l.entries k + l.size - 1) l.limit) l.place ≡ fitting l.entries l.limit l.size
