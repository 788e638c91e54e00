-- Page frames in a row.
use Rattle.std.specs.Prelude.{ℕ, ◌+◌, ◌-◌, ◌&&◌, Bool, nat_lt, nat_le, min, max}

-- `len` frames, the first of which is `lo`. What a `Range` is seen as
pub record Frames : Type 0 where
  pub lo : ℕ
  pub len : ℕ

-- the frame is one of them
abbrev pub covers : ℕ → Frames → Bool
covers frame r = nat_le r.lo frame && nat_lt frame (r.lo + r.len)

-- two ranges of a frame at least have one in common
abbrev pub meets : Frames → Frames → Bool
meets a b = nat_lt a.lo (b.lo + b.len) && nat_lt b.lo (a.lo + a.len)

-- the frames of both and what lies between them
abbrev pub join : Frames → Frames → Frames
join a b =
    let lo = min a.lo b.lo in record { lo = lo; len = max (a.lo + a.len) (b.lo + b.len) - lo }
