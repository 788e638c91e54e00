-- What the acts of a cache weigh, and what stays in its ring.
use Rattle.std.proofs.Common.{◌≡◌, ◌+◌, ◌<◌, ◌⊎◌, inl, inr, ℕ, zero, suc, List, [], ◌∷◌, ◌++◌, length, get_or, set, map, take, drop, Option, None, Some, refl, sym, ap, ◌∙◌, arith, sum_by, length-append}
use Rattle.std.specs.Prelude.{unwrap_or, slice_get}
use Rattle.std.specs.List.{AllByRecursion}
use Rattle.std.proofs.lemmas.List.{length-set, map-append, take-append-drop}
use Rattle.std.proofs.lemmas.List.Sums.{sum_by-append, sum_by-cons, sum_by-set}
use Rattle.iova_range.specs.Frames.{Frames}
use Rattle.iova_range.specs.Sizes.{order_of}
use Rattle.iova_model.specs.declared.entry.Entry.{Entry}
use Rattle.iova_model.specs.Flushes.{entry_range}
use Rattle.iova_cache.specs.Held.{all_ranges}
use Rattle.iova_cache.specs.Magazines.{magazine_of, with_magazine, IsTaken}
use Rattle.iova_cache.specs.Caches.{CacheState, order_in, with_entry, with_entries, ranges_of, entry_at}
use Rattle.iova_cache.specs.Laws.{Act, Does, Runs, IsWhole}
use Rattle.iova_cache.specs.Laws.Act.{Gives, TakesBack, Settles, Refills, Spills, Asks, Returns, Puts, Takes, Keeps, Releases, Grows, Refuses}
use Rattle.iova_cache.proofs.Tables.{sum_by-all}
use Rattle.iova_cache.proofs.Orders.{order_found, order_below}

-- The three places.

parts : (weigh : Frames → ℕ) (c : CacheState) → sum_by weigh (ranges_of c) ≡ sum_by weigh (all_ranges c.magazines) + (sum_by weigh c.held + sum_by weigh (map entry_range c.ring))
parts weigh c =
    let outer = sum_by-append weigh (all_ranges c.magazines) (c.held ++ map entry_range c.ring) in
    let inner = sum_by-append weigh c.held (map entry_range c.ring) in
    omega (arith, outer, inner)

-- One magazine for another.
one_other : (weigh : Frames → ℕ) (ms : List (List Frames)) (o : ℕ) (m : List Frames) → o < length ms
    → sum_by weigh (all_ranges (with_magazine ms o m)) + sum_by weigh (magazine_of ms o) ≡ sum_by weigh (all_ranges ms) + sum_by weigh m
one_other weigh ms o m lt =
    let f : List Frames → ℕ = λ b. sum_by weigh b in
    let all : sum_by f (set ms o m) + sum_by weigh (get_or ms o []) ≡ sum_by f ms + sum_by weigh m = sum_by-set f ms o m [] lt in
    omega (arith, all, sum_by-all weigh ms, sum_by-all weigh (set ms o m))

-- an order that has a range is there
some_there : (ms : List (List Frames)) (o : ℕ) (rest : List Frames) (r : Frames) → magazine_of ms o ≡ rest ++ r ∷ [] → o < length ms
some_there [] o rest r is = absurd (let long = ap length is in let more = length-append rest (r ∷ []) in omega (arith, long, more))
some_there (m ∷ ms) zero rest r is = omega arith
some_there (m ∷ ms) (suc o) rest r is = omega (arith, some_there ms o rest r is)

taken_weighs : (weigh : Frames → ℕ) (old new : List (List Frames)) (o : ℕ) (r : Frames) → IsTaken old new o r → sum_by weigh (all_ranges new) + weigh r ≡ sum_by weigh (all_ranges old)
taken_weighs weigh old new o r t =
    let lt = some_there old o t.rest r t.newest in
    let other = one_other weigh old o t.rest lt in
    let newest = sum_by-append weigh t.rest (r ∷ []) in
    let one = sum_by-cons weigh r [] in
    let whole = ap (λ m. sum_by weigh m) t.newest in
    let now = ap (λ ms. sum_by weigh (all_ranges ms)) t.left in
    omega (arith, other, newest, one, whole, now)

taken_whole : (old new : List (List Frames)) (o : ℕ) (r : Frames) → IsTaken old new o r → length new ≡ length old
taken_whole old new o r t = ap length t.left ∙ length-set old o t.rest

put_weighs : (weigh : Frames → ℕ) (old : List (List Frames)) (o : ℕ) (got : List Frames) → o < length old
    → sum_by weigh (all_ranges (with_magazine old o (magazine_of old o ++ got))) ≡ sum_by weigh (all_ranges old) + sum_by weigh got
put_weighs weigh old o got lt =
    let other = one_other weigh old o (magazine_of old o ++ got) lt in
    let more = sum_by-append weigh (magazine_of old o) got in
    omega (arith, other, more)

order_in_below : (len : ℕ) → order_in len < 6
order_in_below len = step (order_of len) refl
  where
    step : (o : Option ℕ) → order_of len ≡ o → unwrap_or o 0 < 6
    step None is = omega arith
    step (Some o) is = (order_found len o is).0

entries_weigh : (weigh : Frames → ℕ) (ms : List (List Frames)) (es : List Entry) → length ms ≡ 6
    → (length (with_entries ms es) ≡ 6) × (sum_by weigh (all_ranges (with_entries ms es)) ≡ sum_by weigh (all_ranges ms) + sum_by weigh (map entry_range es))
entries_weigh weigh ms [] six = (six, omega arith)
entries_weigh weigh ms (e ∷ es) six =
    let o = order_in e.len in
    let lt : o < length ms = omega (arith, order_in_below e.len, six) in
    let next : length (with_entry ms e) ≡ 6 = length-set ms o (magazine_of ms o ++ entry_range e ∷ []) ∙ six in
    let rest = entries_weigh weigh (with_entry ms e) es next in
    let first = put_weighs weigh ms o (entry_range e ∷ []) lt in
    let one = sum_by-cons weigh (entry_range e) [] in
    let all = sum_by-cons weigh (entry_range e) (map entry_range es) in
    (rest.0, omega (arith, rest.1, first, one, all))

ring_parts : (weigh : Frames → ℕ) (n : ℕ) (es : List Entry) → sum_by weigh (map entry_range es) ≡ sum_by weigh (map entry_range (take n es)) + sum_by weigh (map entry_range (drop n es))
ring_parts weigh n es =
    let whole : map entry_range (take n es) ++ map entry_range (drop n es) ≡ map entry_range es = sym (map-append entry_range (take n es) (drop n es)) ∙ ap (λ l. map entry_range l) (take-append-drop n es) in
    let both = sum_by-append weigh (map entry_range (take n es)) (map entry_range (drop n es)) in
    let same = ap (λ l. sum_by weigh l) whole in
    omega (arith, both, same)

ring_added : (weigh : Frames → ℕ) (es : List Entry) (e : Entry) → sum_by weigh (map entry_range (es ++ e ∷ [])) ≡ sum_by weigh (map entry_range es) + weigh (entry_range e)
ring_added weigh es e =
    let split = ap (λ l. sum_by weigh l) (map-append entry_range es (e ∷ [])) in
    let both = sum_by-append weigh (map entry_range es) (entry_range e ∷ []) in
    let one = sum_by-cons weigh (entry_range e) [] in
    omega (arith, split, both, one)

-- What an act weighs.
abbrev Weighs : CacheState → List Frames → List Frames → CacheState → Type 0
Weighs old came went new = (weigh : Frames → ℕ) → sum_by weigh (ranges_of new) + sum_by weigh went ≡ sum_by weigh (ranges_of old) + sum_by weigh came

-- by the weights of the three places
weighs : (old new : CacheState) (came went : List Frames)
    → ((weigh : Frames → ℕ) → sum_by weigh (all_ranges new.magazines) + (sum_by weigh new.held + sum_by weigh (map entry_range new.ring)) + sum_by weigh went
    ≡ sum_by weigh (all_ranges old.magazines) + (sum_by weigh old.held + sum_by weigh (map entry_range old.ring)) + sum_by weigh came)
    → Weighs old came went new
weighs old new came went h weigh = omega (arith, h weigh, parts weigh old, parts weigh new)

one_weighs : (weigh : Frames → ℕ) (r : Frames) (l : List Frames) → l ≡ r ∷ [] → sum_by weigh l ≡ weigh r
one_weighs weigh r l is = let one = sum_by-cons weigh r [] in let same = ap (λ l. sum_by weigh l) is in omega (arith, one, same)

none_weighs : (weigh : Frames → ℕ) (l : List Frames) → l ≡ [] → sum_by weigh l ≡ 0
none_weighs weigh l is = ap (λ l. sum_by weigh l) is

same_weighs : (weigh : Frames → ℕ) (a b : List Frames) → a ≡ b → sum_by weigh a ≡ sum_by weigh b
same_weighs weigh a b is = ap (λ l. sum_by weigh l) is

same_all : (weigh : Frames → ℕ) (a b : List (List Frames)) → a ≡ b → sum_by weigh (all_ranges a) ≡ sum_by weigh (all_ranges b)
same_all weigh a b is = ap (λ l. sum_by weigh (all_ranges l)) is

same_ring : (weigh : Frames → ℕ) (a b : List Entry) → a ≡ b → sum_by weigh (map entry_range a) ≡ sum_by weigh (map entry_range b)
same_ring weigh a b is = ap (λ l. sum_by weigh (map entry_range l)) is

pub act_weighs : (a : Act) (old new : CacheState) (came went : List Frames) → IsWhole old → Does a old came went new → IsWhole new × Weighs old came went new
act_weighs (Gives order limit r) old new came went six d =
    let h = d.0 in (
      taken_whole old.magazines new.magazines order r h.taken ∙ six,
      weighs old new came went (λ weigh.
          omega (arith, taken_weighs weigh old.magazines new.magazines order r h.taken, h.held weigh, same_ring weigh new.ring old.ring h.ring, none_weighs weigh came d.1.0, none_weighs weigh went d.1.1)),
    )
act_weighs (TakesBack r count) old new came went six d =
    let h = d.0 in (
      ap length h.magazines ∙ six,
      weighs old new came went (λ weigh.
          omega (arith, same_all weigh new.magazines old.magazines h.magazines, h.held weigh, same_ring weigh new.ring (old.ring ++ entry_at r count ∷ []) h.ring, ring_added weigh old.ring (entry_at r count), none_weighs weigh came d.1.0, none_weighs weigh went d.1.1)),
    )
act_weighs (Settles newest count) old new came went six d =
    let h = d.0 in
    let whole = (entries_weigh (λ r. 0) old.magazines (take count old.ring) six).0 in (
      ap length h.magazines.magazines ∙ whole,
      weighs old new came went (λ weigh.
          omega (
            arith,
            (entries_weigh weigh old.magazines (take count old.ring) six).1,
            same_all weigh new.magazines (with_entries old.magazines (take count old.ring)) h.magazines.magazines,
            same_weighs weigh new.held old.held h.held,
            same_ring weigh new.ring (drop count old.ring) h.ring,
            ring_parts weigh count old.ring,
            none_weighs weigh came d.1.0,
            none_weighs weigh went d.1.1,
          )),
    )
act_weighs (Refills s t frames limit most count) old new came went six d =
    let h = d.0 in
    let lt : h.order < length old.magazines = omega (arith, order_below frames h.order h.has, six) in (
      ap length h.magazines ∙ (length-set old.magazines h.order (magazine_of old.magazines h.order ++ h.got) ∙ six),
      weighs old new came went (λ weigh.
          omega (
            arith,
            put_weighs weigh old.magazines h.order h.got lt,
            same_all weigh new.magazines (with_magazine old.magazines h.order (magazine_of old.magazines h.order ++ h.got)) h.magazines,
            same_weighs weigh new.held old.held h.held,
            same_ring weigh new.ring old.ring h.ring,
            same_weighs weigh came h.got d.1.0,
            none_weighs weigh went d.1.1,
          )),
    )
act_weighs (Spills s t order most count) old new came went six d =
    let h = d.1.0 in
    let lt : order < length old.magazines = omega (arith, d.0, six) in (
      ap length h.magazines ∙ (length-set old.magazines order h.left ∙ six),
      weighs old new came went (λ weigh.
          omega (
            arith,
            one_other weigh old.magazines order h.left lt,
            same_weighs weigh (magazine_of old.magazines order) (h.left ++ h.out) h.magazine,
            sum_by-append weigh h.left h.out,
            same_all weigh new.magazines (with_magazine old.magazines order h.left) h.magazines,
            same_weighs weigh new.held old.held h.held,
            same_ring weigh new.ring old.ring h.ring,
            none_weighs weigh came d.1.1.0,
            same_weighs weigh went h.out d.1.1.1,
          )),
    )
act_weighs (Asks s t frames limit r) old new came went six d =
    let h = d.0 in (
      ap length h.magazines ∙ six,
      weighs old new came went (λ weigh.
          omega (arith, same_all weigh new.magazines old.magazines h.magazines, h.held weigh, same_ring weigh new.ring old.ring h.ring, one_weighs weigh r came d.1.0, none_weighs weigh went d.1.1)),
    )
act_weighs (Returns s t lo r) old new came went six d =
    let h = d.1.0 in (
      ap length h.magazines ∙ six,
      weighs old new came went (λ weigh.
          omega (arith, same_all weigh new.magazines old.magazines h.magazines, h.held weigh, same_ring weigh new.ring old.ring h.ring, none_weighs weigh came d.1.1.0, one_weighs weigh r went d.1.1.1)),
    )
act_weighs (Puts order r) old new came went six d =
    let h = d.1.0 in
    let lt : order < length old.magazines = omega (arith, d.0, six) in (
      ap length h.put ∙ (length-set old.magazines order (magazine_of old.magazines order ++ r ∷ []) ∙ six),
      weighs old new came went (λ weigh.
          omega (
            arith,
            put_weighs weigh old.magazines order (r ∷ []) lt,
            sum_by-cons weigh r [],
            same_all weigh new.magazines (with_magazine old.magazines order (magazine_of old.magazines order ++ r ∷ [])) h.put,
            same_weighs weigh new.held old.held h.held,
            same_ring weigh new.ring old.ring h.ring,
            one_weighs weigh r came d.1.1.0,
            none_weighs weigh went d.1.1.1,
          )),
    )
act_weighs (Takes order r) old new came went six d =
    let h = d.0 in (
      taken_whole old.magazines new.magazines order r h.taken ∙ six,
      weighs old new came went (λ weigh.
          omega (arith, taken_weighs weigh old.magazines new.magazines order r h.taken, same_weighs weigh new.held old.held h.held, same_ring weigh new.ring old.ring h.ring, none_weighs weigh came d.1.0, one_weighs weigh r went d.1.1)),
    )
act_weighs (Keeps r) old new came went six d =
    let h = d.0 in (
      ap length h.magazines ∙ six,
      weighs old new came went (λ weigh.
          omega (arith, same_all weigh new.magazines old.magazines h.magazines, h.held weigh, same_ring weigh new.ring old.ring h.ring, one_weighs weigh r came d.1.0, none_weighs weigh went d.1.1)),
    )
act_weighs (Releases lo r) old new came went six d =
    let h = d.0 in (
      ap length h.magazines ∙ six,
      weighs old new came went (λ weigh.
          omega (arith, same_all weigh new.magazines old.magazines h.magazines, h.held weigh, same_ring weigh new.ring old.ring h.ring, none_weighs weigh came d.1.0, one_weighs weigh r went d.1.1)),
    )
act_weighs Grows old new came went six d =
    let h = d.0 in (
      ap length h.magazines ∙ six,
      weighs old new came went (λ weigh.
          omega (arith, same_all weigh new.magazines old.magazines h.magazines, h.held weigh, same_ring weigh new.ring old.ring h.ring, none_weighs weigh came d.1.0, none_weighs weigh went d.1.1)),
    )
act_weighs Refuses old new came went six d = (
  ap (λ (c : CacheState). length c.magazines) d.0 ∙ six,
  λ weigh.
      let same = ap (λ (c : CacheState). sum_by weigh (ranges_of c)) d.0 in
      omega (arith, same, none_weighs weigh came d.1.0, none_weighs weigh went d.1.1),
)

pub run_weighs : (acts : List Act) (old new : CacheState) (came went : List Frames) → IsWhole old → Runs acts old came went new → IsWhole new × Weighs old came went new
run_weighs [] old new came went six r = act_weighs Refuses old new came went six r
run_weighs (a ∷ acts) old new came went six r =
    let m = r.0 in let c1 = r.1.0 in let c2 = r.1.1.0 in let w1 = r.1.1.1.0 in let w2 = r.1.1.1.1.0 in
    let one = act_weighs a old m c1 w1 six r.1.1.1.1.1.0 in
    let rest = run_weighs acts m new c2 w2 one.0 r.1.1.1.1.1.1.0 in (
      rest.0,
      λ weigh.
          let all_came = same_weighs weigh came (c1 ++ c2) r.1.1.1.1.1.1.1.0 in
          let all_went = same_weighs weigh went (w1 ++ w2) r.1.1.1.1.1.1.1.1 in
          omega (arith, one.1 weigh, rest.1 weigh, all_came, all_went, sum_by-append weigh c1 c2, sum_by-append weigh w1 w2),
    )

-- The ring.

pub stays_in : (es : List Entry) (x : Entry) (i : ℕ) (e : Entry) → slice_get es i ≡ Some e → slice_get (es ++ x ∷ []) i ≡ Some e
stays_in [] x i e is = absurd (let bad : ◌≡◌ {A = Option Entry} None (Some e) = is in cc)
stays_in (y ∷ es) x zero e is = is
stays_in (y ∷ es) x (suc i) e is = stays_in es x i e is

pub behind : (n : ℕ) (es : List Entry) (i newest : ℕ) (e : Entry) → slice_get es i ≡ Some e → AllByRecursion (λ (e : Entry). e.count < newest) (take n es)
    → ((j : ℕ) × (slice_get (drop n es) j ≡ Some e)) ⊎ (e.count < newest)
behind zero es i newest e is flushed = inl (i, is)
behind (suc n) [] i newest e is flushed = absurd (let bad : ◌≡◌ {A = Option Entry} None (Some e) = is in cc)
behind (suc n) (x ∷ es) zero newest e is flushed =
    let both : Some x ≡ Some e = is in
    let same : x ≡ e = cc in
    inr (rw same at flushed.0)
behind (suc n) (x ∷ es) (suc i) newest e is flushed = behind n es i newest e is flushed.1
