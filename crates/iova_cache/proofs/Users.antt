-- What the caches of a domain and its other clients have is what the domain's clients hold.
use Rattle.std.proofs.Common.{◌≡◌, ◌≢◌, ◌+◌, ◌≤◌, ◌==◌, ℕ, Bool, true, false, cond, if◌then◌else◌, List, [], ◌∷◌, ◌++◌, Some, map, refl, sym, ap, arith, sum_by}
use Rattle.std.proofs.lemmas.Bool.Decides.{nat_tests}
use Rattle.std.proofs.lemmas.List.Sums.{sum_by-append, sum_by-cons}
use Rattle.iova_range.specs.Frames.{Frames}
use Rattle.iova_model.specs.Flushes.{entry_range}
use Rattle.iova_model.specs.Clients.{Client, client_with}
use Rattle.iova_model.specs.State.{State, Holder, holders, times_held}
use Rattle.iova_model.specs.Effects.{held_by, held_in}
use Rattle.iova_laws.proofs.Weights as weights
use Rattle.iova_cache.specs.Held.{all_ranges}
use Rattle.iova_cache.specs.Caches.{CacheState, ranges_of, new_cache}
use Rattle.iova_cache.specs.Worlds.{World, IsWorld, AreBooked, AreOthers, AreApart, has_frame, has_cache, held_over, held_without, in_use}

-- the ranges of all caches
abbrev pub all_cached : List CacheState → List Frames
all_cached [] = []
all_cached (c ∷ cs) = ranges_of c ++ all_cached cs

module _ (weigh : Frames → ℕ) where
  -- what the clients of the caches hold
  abbrev booked : List Client → List CacheState → ℕ
  booked xs [] = 0
  booked xs (c ∷ cs) = sum_by weigh (held_by c.client xs) + booked xs cs

  held_other : (id : ℕ) (x : Client) (xs : List Client) → x.id ≢ id → held_by id (x ∷ xs) ≡ held_by id xs
  held_other id x xs ne = step (x.id == id) refl
    where
      step : (b : Bool) → (x.id == id) ≡ b → held_in (cond b (Some x) (client_with id xs)) ≡ held_by id xs
      step true is = absurd (ne (grind (arith, nat_tests)))
      step false is = refl

  booked_none : (cs : List CacheState) → booked [] cs ≡ 0
  booked_none [] = refl
  booked_none (c ∷ cs) = omega (arith, booked_none cs)

  booked_others : (x : Client) (xs : List Client) (cs : List CacheState) → AreOthers x.id cs → booked (x ∷ xs) cs ≡ booked xs cs
  booked_others x xs [] others = refl
  booked_others x xs (c ∷ cs) others =
      let first = ap (λ l. sum_by weigh l) (held_other c.client x xs (λ is. others.0 (sym is))) in
      let rest = booked_others x xs cs others.1 in
      omega (arith, first, rest)

  abbrev if_cached : Client → List CacheState → ℕ
  if_cached x cs = if has_cache x.id cs then sum_by weigh x.holdings else 0

  booked_one : (x : Client) (xs : List Client) (cs : List CacheState) → AreApart cs → booked (x ∷ xs) cs ≤ if_cached x cs + booked xs cs
  booked_one x xs [] apart = omega arith
  booked_one x xs (c ∷ cs) apart = step (x.id == c.client) refl (booked_one x xs cs apart.1)
    where
      step : (b : Bool) → (x.id == c.client) ≡ b → booked (x ∷ xs) cs ≤ if_cached x cs + booked xs cs
          → sum_by weigh (held_in (cond b (Some x) (client_with c.client xs))) + booked (x ∷ xs) cs ≤ (if (if b then true else has_cache x.id cs) then sum_by weigh x.holdings else 0) + (sum_by weigh (held_by c.client xs) + booked xs cs)
      step true is later =
          let same : x.id ≡ c.client = grind (arith, nat_tests) in
          let rest = booked_others x xs cs (rw same apart.0) in
          omega (arith, rest)
      step false is later = omega (arith, later)

  -- those of caches and those without are all clients at most
  pub all_clients : (xs : List Client) (cs : List CacheState) → AreApart cs → booked xs cs + sum_by weigh (held_without cs xs) ≤ weights.clients weigh xs
  all_clients [] cs apart = omega (arith, booked_none cs)
  all_clients (x ∷ xs) cs apart = step (has_cache x.id cs) refl (all_clients xs cs apart)
    where
      step : (b : Bool) → has_cache x.id cs ≡ b → booked xs cs + sum_by weigh (held_without cs xs) ≤ weights.clients weigh xs → booked (x ∷ xs) cs + sum_by weigh (if b then held_without cs xs else x.holdings ++ held_without cs xs) ≤ weights.clients weigh (x ∷ xs)
      step true is rest =
          let one = booked_one x xs cs apart in
          let here : if_cached x cs ≡ sum_by weigh x.holdings = rw is refl in
          omega (arith, one, here, rest, weights.ranges_are weigh x.holdings)
      step false is rest =
          let one = booked_one x xs cs apart in
          let here : if_cached x cs ≡ 0 = rw is refl in
          omega (arith, one, here, rest, weights.ranges_are weigh x.holdings, sum_by-append weigh x.holdings (held_without cs xs))

  pub booked_are : (s : State) (cs : List CacheState) → AreBooked s cs → sum_by weigh (all_cached cs) ≡ booked s.clients cs
  booked_are s [] h = refl
  booked_are s (c ∷ cs) h = omega (arith, sum_by-append weigh (ranges_of c) (all_cached cs), h.0.1 weigh, booked_are s cs h.1)

  -- a cache's ranges, by their places
  pub places_weigh : (c : CacheState) → sum_by weigh (ranges_of c) ≡ sum_by weigh (all_ranges c.magazines) + (sum_by weigh c.held + sum_by weigh (map entry_range c.ring))
  places_weigh c =
      let outer = sum_by-append weigh (all_ranges c.magazines) (c.held ++ map entry_range c.ring) in
      let inner = sum_by-append weigh c.held (map entry_range c.ring) in
      omega (arith, outer, inner)

  pub held_within : (cs : List CacheState) → sum_by weigh (held_over cs) ≤ sum_by weigh (all_cached cs)
  held_within [] = omega arith
  held_within (c ∷ cs) =
      omega (arith, places_weigh c, sum_by-append weigh (ranges_of c) (all_cached cs), sum_by-append weigh c.held (held_over cs), held_within cs)

-- One place.

times_are : (frame : ℕ) (hs : List Holder) → times_held frame hs ≡ sum_by (has_frame frame) (map (λ h. h.range) hs)
times_are frame [] = refl
times_are frame (h ∷ hs) = omega (arith, times_are frame hs, sum_by-cons (has_frame frame) h.range (map (λ h. h.range) hs))

-- what clients hold and what waits in the domain's rings
pub held_once : (w : World) (frame : ℕ) → IsWorld w → weights.clients (has_frame frame) w.domain.clients + weights.rings (has_frame frame) w.domain.rings ≤ 1
held_once w frame is =
    let s = w.domain in
    let once = is.valid.one_place.once frame in
    let all = times_are frame (holders s) in
    let parts = weights.held_weigh (has_frame frame) s in
    omega (arith, once, all, parts)

-- what caches have, what other clients hold, and what waits in the domain's rings
pub placed_once : (w : World) (frame : ℕ) → IsWorld w → sum_by (has_frame frame) (all_cached w.caches) + sum_by (has_frame frame) (held_without w.caches w.domain.clients) + weights.rings (has_frame frame) w.domain.rings ≤ 1
placed_once w frame is =
    let weigh = has_frame frame in
    let all = all_clients weigh w.domain.clients w.caches is.apart in
    let same = booked_are weigh w.domain w.caches is.booked in
    omega (arith, all, same, held_once w frame is)

pub used_once : (w : World) (frame : ℕ) → IsWorld w → sum_by (has_frame frame) (in_use w) ≤ 1
used_once w frame is =
    let weigh = has_frame frame in
    let both = sum_by-append weigh (held_over w.caches) (held_without w.caches w.domain.clients) in
    omega (arith, both, held_within weigh w.caches, placed_once w frame is)

-- With a client that has no cache beside them; and of two clients.

pub others_once : (w : World) (frame id : ℕ) → IsWorld w → AreOthers id w.caches → sum_by (has_frame frame) (held_by id w.domain.clients) + sum_by (has_frame frame) (all_cached w.caches) + weights.rings (has_frame frame) w.domain.rings ≤ 1
others_once w frame id is others =
    let weigh = has_frame frame in
    let all = all_clients weigh w.domain.clients (new_cache 0 id false ∷ w.caches) (others, is.apart) in
    let same = booked_are weigh w.domain w.caches is.booked in
    omega (arith, all, same, held_once w frame is)

pub two_once : (w : World) (frame one two : ℕ) → IsWorld w → one ≢ two → sum_by (has_frame frame) (held_by one w.domain.clients) + sum_by (has_frame frame) (held_by two w.domain.clients) ≤ 1
two_once w frame one two is ne =
    let weigh = has_frame frame in
    let all = all_clients weigh w.domain.clients (new_cache 0 one false ∷ new_cache 0 two false ∷ []) (((λ same. ne (sym same)), tt), (tt, tt)) in
    omega (arith, all, held_once w frame is)
