-- Entries leave or come to one depot: its count follows, and fits.
use Rattle.std.proofs.Common.{ℕ, ◌≡◌, ◌+◌, ◌-◌, ◌*◌, ◌%◌, ◌^◌, ◌<◌, ◌≤◌, List, [], ◌∷◌, length, refl, sym, ap, ◌∙◌, arith}
use Rattle.std.specs.Prelude.{slice_index_or, slice_set}
use Rattle.std.proofs.Math.Nat.{mul-le-mul}
use Rattle.std.proofs.lemmas.List.Sums.{sum_by-cons}
use Rattle.iova_range.specs.Bounds.{Capacities}
use Rattle.iova_model.specs.Valid.{IsDepot}
use Rattle.iova_mag.specs.Magazines.{Magazine, IsMagazine}
use Rattle.iova_mag.specs.Workers.{WorkerCache}
use Rattle.iova_depot.specs.Stored.{Stored}
use Rattle.iova_depot.specs.Inside.{caches_of, AreCachesKept}
use Rattle.iova_depot.proofs.Counts.{entries_of, pow_of_order, sizes_of, depots_bound, frames_of-with_depot}
use Rattle.iova_depot.proofs.Changes.{depot_at-seen, inside-depot}

-- what the code computes by a shift
pub shifted : (a o : ℕ) → a ≤ 4096 → o < 6 → a * 2 ^ o % 18446744073709551616 ≡ 2 ^ o * a
shifted a o le lt =
    let small : a * 2 ^ o ≤ 4096 * 32 = mul-le-mul le (pow_of_order o lt) in
    let commuted : a * 2 ^ o ≡ 2 ^ o * a = grind arith in
    omega arith

pub magazine_small : (m : Magazine) → IsMagazine m → length m.entries ≤ 128
magazine_small m s =
    let room : length m.entries ≤ m.profile.mag = s.room in
    let few : m.profile.mag ≤ 128 = (sizes_of m.profile s.profile).few in
    omega arith

times_add : (t a b : ℕ) → t * (a + b) ≡ t * a + t * b
times_add t a b = grind arith

less : (d t a e e' : ℕ) → e ≡ a + e' → t * a ≤ d → (d - t * a) + t * e ≡ d + t * e'
less d t a e e' is fits = rw is (let s = times_add t a e' in omega arith)

more : (d t a e e' : ℕ) → e' ≡ a + e → (d + t * a) + t * e ≡ d + t * e'
more d t a e e' is = rw is (let s = times_add t a e in omega arith)

part_fits : (d new t a e e' : ℕ) → e ≡ a + e' → new + t * e ≡ d + t * e' → t * a ≤ d
part_fits d new t a e e' is counts = let s = times_add t a e' in let counts' = rw is at counts in omega arith

-- Where a change takes so many frames out, they can be taken from the count, and the rest stays sound.

pub record LessInDepot (profile : Capacities) (ws : List WorkerCache) (ds : List Stored) (d n o : ℕ) (q : Stored) (frames : ℕ) : Type 0 where
  pub fits : frames ≤ d
  pub inside : AreCachesKept profile ws (slice_set ds o q) (d - frames) n

-- lists of a depot that have no entry are none
no_lists : (p : Capacities) (lists : List (List ℕ)) → IsDepot p lists → entries_of lists ≡ 0 → lists ≡ []
no_lists p [] is none = refl
no_lists p (los ∷ rest) is none = let e = sum_by-cons length los rest in let some : 1 ≤ length los = is.each.0.some in absurd (omega arith)

pub less-depot : (profile : Capacities) (ws : List WorkerCache) (ds : List Stored) (d n o : ℕ) (p q : Stored) (a frames : ℕ) → AreCachesKept profile ws ds d n
    → o < 6 → p ≡ slice_index_or ds o p → q.profile ≡ p.profile → IsDepot q.profile q.lists
    → frames ≡ 2 ^ o * a → entries_of p.lists ≡ a + entries_of q.lists → LessInDepot profile ws ds d n o q frames
less-depot profile ws ds d n o p q a frames s o_lt is keeps sound frames_are counts =
    let k : length (caches_of ws ds).depots ≡ 6 = s.caches.orders in
    let lt : o < length (caches_of ws ds).depots = omega arith in
    let at = depot_at-seen profile ws ds d n o p s o_lt is in
    let sums = rw (at, ← s.depot) at (frames_of-with_depot (caches_of ws ds) o q.lists lt) in
    let fits : 2 ^ o * a ≤ d = part_fits d _ (2 ^ o) a (entries_of p.lists) (entries_of q.lists) counts sums in
    let empty : length ws * 6 + o < n → q.lists ≡ [] =
    λ below. (let none : entries_of p.lists ≡ 0 = ap entries_of (sym at ∙ s.empty.depots o o_lt below) in no_lists q.profile q.lists sound (omega arith)) in
    record {
      fits = rw frames_are fits;
      inside = rw frames_are (inside-depot profile ws ds d n (d - 2 ^ o * a) n o p q s o_lt is keeps sound
          (less d (2 ^ o) a (entries_of p.lists) (entries_of q.lists) counts fits) (omega arith) empty);
    }

-- Where a change brings so many in, they can be added.

pub record MoreInDepot (profile : Capacities) (ws : List WorkerCache) (ds : List Stored) (d n o : ℕ) (q : Stored) (frames : ℕ) : Type 0 where
  pub fits : d + frames < 18446744073709551616
  pub inside : AreCachesKept profile ws (slice_set ds o q) (d + frames) n

pub more-depot : (profile : Capacities) (ws : List WorkerCache) (ds : List Stored) (d n n' o : ℕ) (p q : Stored) (a frames : ℕ) → AreCachesKept profile ws ds d n
    → o < 6 → p ≡ slice_index_or ds o p → q.profile ≡ p.profile → IsDepot q.profile q.lists
    → frames ≡ 2 ^ o * a → a ≤ 4096 → entries_of q.lists ≡ a + entries_of p.lists → n' ≤ n → n' ≤ length ws * 6 + o → MoreInDepot profile ws ds d n' o q frames
more-depot profile ws ds d n n' o p q a frames s o_lt is keeps sound frames_are a_le counts le below_slot =
    let most = depots_bound profile (length ws) (caches_of ws ds) s.is_profile s.caches in
    let bound : d ≤ 786432 = rw (← s.depot) at most in
    let brought : 2 ^ o * a ≤ 32 * 4096 = mul-le-mul (pow_of_order o o_lt) a_le in
    record {
      fits = rw frames_are (omega arith);
      inside = rw frames_are (inside-depot profile ws ds d n (d + 2 ^ o * a) n' o p q s o_lt is keeps sound
          (more d (2 ^ o) a (entries_of p.lists) (entries_of q.lists) counts) le (λ below. absurd (omega arith)));
    }
