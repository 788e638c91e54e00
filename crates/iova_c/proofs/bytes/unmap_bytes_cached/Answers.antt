use Rattle.std.proofs.Common.{◌≡◌, ◌≤◌, ◌==◌, ℕ, Bool, true, false, cond, List, [], ◌∷◌, find, Option, None, Some, Result, Ok, Err, refl, ap, arith}
use Rattle.std.proofs.lemmas.Bool.Decides.{nat_tests}
use Rattle.std.proofs.lemmas.Nat.{mul-le}
use Rattle.iova_range.specs.Frames.{Frames}
use Rattle.iova_model.specs.Clients.{begins_at}
use Rattle.iova_cache.specs.declared.cache.Kept.{Kept}
use Rattle.iova_cache.specs.Caches.{CacheState}
use Rattle.iova_c.specs.declared.cached.PagedCache.{PagedCache}
use Rattle.iova_c.specs.declared.answer.RangeAnswer.{RangeAnswer}
use Rattle.iova_c.specs.Caches.{UnmapCall, Unmaps, kept_answer}
use Rattle.iova_c.proofs.bytes.unmap_bytes_cached.Goals as goal

-- what begins there begins there
begins : (lo : ℕ) (rs : List Frames) (r : Frames) → find (begins_at lo) rs ≡ Some r → r.lo ≡ lo
begins lo [] r is = absurd (let bad : ◌≡◌ {A = Option Frames} None (Some r) = is in cc)
begins lo (x ∷ rs) r is = step (x.lo == lo) refl is (λ rest. begins lo rs r rest)
  where
    step : (b : Bool) → (x.lo == lo) ≡ b → cond b (Some x) (find (begins_at lo) rs) ≡ Some r → (find (begins_at lo) rs ≡ Some r → r.lo ≡ lo) → r.lo ≡ lo
    step true at here later =
        let same : x ≡ r = let both : Some x ≡ Some r = here in cc in
        let begun : x.lo ≡ lo = grind (arith, nat_tests) in
        rw same at begun
    step false at here later = later here

-- what is answered begins no later, and has no more frames than a magazine's ranges
given_low : (c c' : CacheState) (lo start : ℕ) (res : Result Frames Kept) (a : RangeAnswer) → Unmaps c c' lo start res → a ≡ kept_answer res → (a.lo ≤ lo) × (a.len ≤ 32)
given_low c c' lo start (Ok r) a u is =
    let at = begins lo c.held r u.given_up.0 in let few = u.given_up.1 in let first = ap (λ (a : RangeAnswer). a.lo) is in let long = ap (λ (a : RangeAnswer). a.len) is in
    (omega (arith, at, first), omega (arith, few, long))
given_low c c' lo start (Err x) a u is =
    let first = ap (λ (a : RangeAnswer). a.lo) is in let long = ap (λ (a : RangeAnswer). a.len) is in (omega (arith, first), omega (arith, long))

low : (o n : Option PagedCache) (lo start : ℕ) (a : RangeAnswer) → UnmapCall o lo start a n → (a.lo ≤ lo) × (a.len ≤ 32)
low None n lo start a h =
    let first = ap (λ (a : RangeAnswer). a.lo) h.0 in let long = ap (λ (a : RangeAnswer). a.len) h.0 in (omega (arith, first), omega (arith, long))
low (Some c) n lo start a h = given_low c.cache h.0 lo start h.1.0 a h.1.1.0 h.1.1.1.0

pub in_bytes-requires-2-clause-lo : goal.in_bytes-requires-2-clause-lo
in_bytes-requires-2-clause-lo c =
    let most = low c.args.slot.now.cache c.unmap.new.slot.cache _ c.args.start c.unmap.result c.unmap.ensures in
    let before = c.frame_at-lo.ensures.before in let fits = c.ranges.address.fits in
    let times = mul-le c.unmap.result.lo c.in-Some.cached.granule c.frame_at-lo.result c.in-Some.cached.granule most.0 (omega arith) in
    rw c.bytes-granule.ensures.is (omega (arith, times, before, fits))
