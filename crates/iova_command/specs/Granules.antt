-- The bytes of a frame.
use Rattle.std.specs.Prelude.{ℕ, ◌≡◌, ◌==◌, ◌||◌, Bool, true}

-- a page of 4 KiB, or of a power of two as many bytes, up to 2 MiB
abbrev pub is_granule : ℕ → Bool
is_granule bytes =
    bytes == 4096 || (bytes == 8192 || (bytes == 16384 || (bytes == 32768 || (bytes == 65536
    || (bytes == 131072 || (bytes == 262144 || (bytes == 524288 || (bytes == 1048576
    || bytes == 2097152))))))))

abbrev pub IsGranule : ℕ → Type 0
IsGranule bytes = is_granule bytes ≡ true
