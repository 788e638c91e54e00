-- Bytes and masks, in frames of so many bytes.
use Rattle.std.specs.Prelude.{ℕ, ◌+◌, ◌-◌, ◌/◌}

-- the least number of frames that has so many bytes
abbrev pub frames_of : ℕ → ℕ → ℕ
frames_of granule bytes = (bytes + (granule - 1)) / granule

-- the last frame whose last byte's address isn't above the mask, 0 where there is none
abbrev pub last_frame : ℕ → ℕ → ℕ
last_frame granule mask = (mask - (granule - 1)) / granule

-- the frame that has the byte at the address
abbrev pub frame_at : ℕ → ℕ → ℕ
frame_at granule address = address / granule
