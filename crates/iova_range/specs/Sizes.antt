-- The sizes that requests are rounded to, how they are aligned, and which of them are cached.
use Rattle.std.specs.Prelude.{ℕ, zero, suc, ◌*◌, ◌^◌, ◌==◌, nat_lt, nat_le, List, [], ◌∷◌, Option, find, if◌then◌else◌}

-- p, doubled until it isn't below n, at most `times` times
abbrev pub doubled_to : ℕ → ℕ → ℕ → ℕ
doubled_to n zero p = p
doubled_to n (suc times) p =
    let further = doubled_to n times (2 * p) in if nat_le n p then p else further

-- The least power of two that isn't below the size: a range begins at a multiple of it.
-- Linux 5.15 drivers/iommu/iova.c: __alloc_and_insert_iova_range, size aligned
abbrev pub align_of : ℕ → ℕ
align_of size = doubled_to size size 1

-- What a request for n frames is rounded up to: a power of two below 32 frames, and itself from
-- there on. Linux 5.15 drivers/iommu/dma-iommu.c: iommu_dma_alloc_iova
abbrev pub need : ℕ → ℕ
need n = if nat_lt n 32 then align_of n else n

-- the orders that have magazines: IOVA_RANGE_CACHE_MAX_SIZE of Linux 5.15 include/linux/iova.h
abbrev pub orders : List ℕ
orders = 0 ∷ 1 ∷ 2 ∷ 3 ∷ 4 ∷ 5 ∷ []

-- The order whose power of two the size is, where it has one; ranges of other sizes aren't cached.
-- Linux 5.15 drivers/iommu/iova.c: iova_rcache_get
abbrev pub order_of : ℕ → Option ℕ
order_of size = find (λ order. 2 ^ order == size) orders
