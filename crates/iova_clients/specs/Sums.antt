-- Totals, kept as numbers.
use Rattle.std.specs.Prelude.{ℕ, ◌-◌, ◌^◌, ◌≤◌, List, [], ◌∷◌, slice_index_or, slice_set}
use Rattle.iova_range.specs.Frames.{Frames}
use Rattle.iova_model.specs.declared.totals.Totals.{Totals}
use Rattle.iova_model.specs.Clients.{totals_of, no_totals}
use Rattle.iova_model.specs.Effects.{add_totals}

-- some totals, added up
abbrev pub added : List Totals → Totals
added [] = no_totals
added (t ∷ ts) = add_totals t (added ts)

-- totals with one holding more, and with one less
abbrev pub with_one : Frames → Totals → Totals
with_one r t = add_totals t (totals_of (r ∷ []))

abbrev pub without_one : Frames → Totals → Totals
without_one r t =
    record { count = t.count - 1; frames = t.frames - r.len; sum_lo = t.sum_lo - r.lo }

-- one worker's share, and the shares with another in its place
abbrev pub share_at : ℕ → List Totals → Totals
share_at worker shares = slice_index_or shares worker no_totals

abbrev pub with_share : ℕ → (Totals → Totals) → List Totals → List Totals
with_share worker change shares = slice_set shares worker (change (share_at worker shares))

-- one holding more fits into the numbers: there are less than 2^22 of at most 2^20 frames, none of
-- which is above 2^40
pub record HaveRoom (t : Totals) : Type 0 where
  pub count : t.count ≤ 2 ^ 62
  pub frames : t.frames ≤ 2 ^ 62
  pub sum_lo : t.sum_lo ≤ 2 ^ 62

-- the holding is among those that were added up
pub record Include (r : Frames) (t : Totals) : Type 0 where
  pub count : 1 ≤ t.count
  pub frames : r.len ≤ t.frames
  pub sum_lo : r.lo ≤ t.sum_lo
