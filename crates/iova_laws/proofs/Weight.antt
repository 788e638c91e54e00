-- How much the ranges of a list weigh together, for any weight of a range, and what each change to a list makes of it.
use Rattle.std.proofs.Common.{ℕ, zero, suc, ◌≡◌, ◌+◌, ◌-◌, ◌^◌, ◌<◌, ◌≤◌, ◌==◌, Bool, true, false, not, List, [], ◌∷◌, ◌++◌, length, take, Some, refl, sym, ap, arith, sum_by, filter, length-set, map, find}
use Rattle.std.specs.Prelude.{nat_lt, slice_index, slice_index_or, slice_set}
use Rattle.std.proofs.lemmas.Bool.{cond_both}
use Rattle.std.proofs.lemmas.List.Recursion.{is_sum_by}
use Rattle.iova_range.specs.Frames.{Frames}
use Rattle.iova_model.specs.declared.entry.Entry.{Entry}
use Rattle.iova_model.specs.Caches.{Cache, Caches, Shelf, no_magazines, of_order}
use Rattle.iova_model.specs.Flushes.{entry_range, flushed_front, unflushed_rest}
use Rattle.iova_model.specs.Clients.{Client, has_id, client_with, change_client, without_client, with_mark, insert_rising, begins_at, remove_at}

module _ (weigh : Frames → ℕ) where
  -- ranges
  abbrev pub ranges : List Frames → ℕ
  ranges [] = 0
  ranges (r ∷ rs) = weigh r + ranges rs

  -- the first frames of an order's ranges
  abbrev pub firsts : ℕ → List ℕ → ℕ
  firsts o [] = 0
  firsts o (lo ∷ los) = weigh (record { lo = lo; len = 2 ^ o }) + firsts o los

  -- the lists of one order's depot
  abbrev pub lists : ℕ → List (List ℕ) → ℕ
  lists o [] = 0
  lists o (los ∷ rest) = firsts o los + lists o rest

  -- the two magazines of one worker and order
  abbrev pub cache : ℕ → Cache → ℕ
  cache o c = firsts o c.loaded + firsts o c.previous

  -- the magazines of one worker, from this order on
  abbrev pub caches : ℕ → List Cache → ℕ
  caches o [] = 0
  caches o (c ∷ cs) = cache o c + caches (o + 1) cs

  -- those of all workers
  abbrev pub magazines : List (List Cache) → ℕ
  magazines [] = 0
  magazines (cs ∷ rest) = caches 0 cs + magazines rest

  -- the depot, from this order on
  abbrev pub depots : ℕ → List (List (List ℕ)) → ℕ
  depots o [] = 0
  depots o (d ∷ rest) = lists o d + depots (o + 1) rest

  -- a shelf of an order
  abbrev pub shelf : ℕ → Shelf → ℕ
  shelf o s = firsts o s.loaded + firsts o s.previous + lists o s.depot

  -- all that is cached
  abbrev pub cached : Caches → ℕ
  cached c = magazines c.workers + depots 0 c.depots

  -- one ring
  abbrev pub entries : List Entry → ℕ
  entries [] = 0
  entries (e ∷ es) = weigh (entry_range e) + entries es

  -- all rings
  abbrev pub rings : List (List Entry) → ℕ
  rings [] = 0
  rings (r ∷ rs) = entries r + rings rs

  -- all holdings of all clients
  abbrev pub clients : List Client → ℕ
  clients [] = 0
  clients (c ∷ cs) = ranges c.holdings + clients cs

  -- Ranges.

  -- the weight of ranges is std's sum
  pub ranges_are : (rs : List Frames) → sum_by weigh rs ≡ ranges rs
  ranges_are rs = sym (is_sum_by (λ xs. ranges xs) weigh refl (λ x xs. refl) rs)

  -- two lists, one after the other
  pub ranges-append : (xs ys : List Frames) → ranges (xs ++ ys) ≡ ranges xs + ranges ys
  ranges-append [] ys = omega arith
  ranges-append (x ∷ xs) ys = omega (arith, ranges-append xs ys)

  -- first frames as ranges
  pub ranges-of_order : (o : ℕ) (los : List ℕ) → ranges (of_order o los) ≡ firsts o los
  ranges-of_order o [] = refl
  ranges-of_order o (lo ∷ los) = omega (arith, ranges-of_order o los)

  -- those that pass a test and those that don't
  pub ranges-filter : (test : Frames → Bool) (rs : List Frames) → ranges (filter test rs) + ranges (filter (λ r. not (test r)) rs) ≡ ranges rs
  ranges-filter test [] = refl
  ranges-filter test (r ∷ rs) = filter_step (ranges-filter test rs) (test r) refl
    where
      filter_step : ranges (filter test rs) + ranges (filter (λ x. not (test x)) rs) ≡ ranges rs → (b : Bool) → test r ≡ b → ranges (filter test (r ∷ rs)) + ranges (filter (λ x. not (test x)) (r ∷ rs)) ≡ ranges (r ∷ rs)
      filter_step more true is = rw is (omega arith)
      filter_step more false is = rw is (omega arith)

  -- one more range
  pub ranges-insert : (r : Frames) (rs : List Frames) → ranges (insert_rising r rs) ≡ weigh r + ranges rs
  ranges-insert r [] = refl
  ranges-insert r (x ∷ xs) =
      cond_both (nat_lt r.lo x.lo) (r ∷ x ∷ xs) (x ∷ insert_rising r xs) (λ l. ranges l ≡ weigh r + ranges (x ∷ xs)) (λ e. refl) (λ e. omega (arith, ranges-insert r xs))

  -- the range that is found is the one that is removed
  pub ranges-remove : (lo : ℕ) (r : Frames) (rs : List Frames) → find (begins_at lo) rs ≡ Some r → ranges (remove_at lo rs) + weigh r ≡ ranges rs
  ranges-remove lo r [] found = absurd cc
  ranges-remove lo r (x ∷ xs) found = remove_step (λ e. ranges-remove lo r xs e) (x.lo == lo) refl
    where
      remove_step : (find (begins_at lo) xs ≡ Some r → ranges (remove_at lo xs) + weigh r ≡ ranges xs) → (b : Bool) → (x.lo == lo) ≡ b → ranges (remove_at lo (x ∷ xs)) + weigh r ≡ ranges (x ∷ xs)
      remove_step more true is =
          let found' = rw is at found in
          let same : x ≡ r = cc (found') in
          rw is (omega (arith, ap weigh same))
      remove_step more false is = rw is (omega (arith, more (rw is at found)))

  -- First frames, and lists of them.

  -- two lists, one after the other
  pub firsts-append : (o : ℕ) (xs ys : List ℕ) → firsts o (xs ++ ys) ≡ firsts o xs + firsts o ys
  firsts-append o [] ys = omega arith
  firsts-append o (x ∷ xs) ys = omega (arith, firsts-append o xs ys)

  -- a list is its last element and the rest
  firsts_last : (o n : ℕ) (xs : List ℕ) → length xs ≡ suc n → firsts o (take n xs) + weigh (record { lo = slice_index xs n; len = 2 ^ o }) ≡ firsts o xs
  firsts_last o n [] e = absurd (omega arith)
  firsts_last o zero (x ∷ []) e = omega arith
  firsts_last o zero (x ∷ y ∷ xs) e = absurd (omega arith)
  firsts_last o (suc n) (x ∷ xs) e = omega (arith, firsts_last o n xs (omega arith))

  -- another element at a place
  firsts_set : (o i v : ℕ) (xs : List ℕ) → i < length xs → firsts o (slice_set xs i v) + weigh (record { lo = slice_index xs i; len = 2 ^ o }) ≡ firsts o xs + weigh (record { lo = v; len = 2 ^ o })
  firsts_set o i v [] lt = absurd (omega arith)
  firsts_set o zero v (x ∷ xs) lt = omega arith
  firsts_set o (suc i) v (x ∷ xs) lt = omega (arith, firsts_set o i v xs (omega arith))

  -- the last element after a write of it
  last_after_set : (xs : List ℕ) (i n v : ℕ) → slice_index xs n ≡ v → slice_index (slice_set xs i v) n ≡ v
  last_after_set [] i n v e = e
  last_after_set (x ∷ xs) zero zero v e = refl
  last_after_set (x ∷ xs) zero (suc n) v e = e
  last_after_set (x ∷ xs) (suc i) zero v e = e
  last_after_set (x ∷ xs) (suc i) (suc n) v e = last_after_set xs i n v e

  -- an element leaves, and the last one takes its place
  pub firsts-swap_remove : (o i : ℕ) (xs : List ℕ) → i < length xs → firsts o (take (length xs - 1) (slice_set xs i (slice_index xs (length xs - 1)))) + weigh (record { lo = slice_index xs i; len = 2 ^ o }) ≡ firsts o xs
  firsts-swap_remove o i xs lt =
      let n = length xs - 1 in
      let v = slice_index xs n in
      let size : length (slice_set xs i v) ≡ suc n = omega (arith, length-set xs i v) in
      let written = firsts_set o i v xs lt in
      let last = firsts_last o n (slice_set xs i v) size in
      let is : slice_index (slice_set xs i v) n ≡ v = last_after_set xs i n v refl in
      let last' : firsts o (take n (slice_set xs i v)) + weigh (record { lo = v; len = 2 ^ o }) ≡ firsts o (slice_set xs i v) = rw is at last in
      omega (arith, written, last')

  -- two lists, one after the other
  pub lists-append : (o : ℕ) (xs ys : List (List ℕ)) → lists o (xs ++ ys) ≡ lists o xs + lists o ys
  lists-append o [] ys = omega arith
  lists-append o (x ∷ xs) ys = omega (arith, lists-append o xs ys)

  -- a list is its last element and the rest
  pub lists_last : (o n : ℕ) (xs : List (List ℕ)) → length xs ≡ suc n → lists o (take n xs) + firsts o (slice_index_or xs n []) ≡ lists o xs
  lists_last o n [] e = absurd (omega arith)
  lists_last o zero (x ∷ []) e = omega arith
  lists_last o zero (x ∷ y ∷ xs) e = absurd (omega arith)
  lists_last o (suc n) (x ∷ xs) e = omega (arith, lists_last o n xs (omega arith))

  -- Writes to one place.

  -- a cache of an order
  pub caches-set : (j o : ℕ) (cs : List Cache) (x : Cache) → o < length cs → caches j (slice_set cs o x) + cache (j + o) (slice_index_or cs o no_magazines) ≡ caches j cs + cache (j + o) x
  caches-set j o [] x lt = absurd (omega arith)
  caches-set j zero (c ∷ cs) x lt = let e : j + 0 ≡ j = omega arith in rw e (omega arith)
  caches-set j (suc o) (c ∷ cs) x lt = let e : j + suc o ≡ j + 1 + o = omega arith in rw e (omega (arith, caches-set (j + 1) o cs x (omega arith)))

  -- the caches of a worker
  pub magazines-set : (w : ℕ) (ws : List (List Cache)) (new : List Cache) → w < length ws → magazines (slice_set ws w new) + caches 0 (slice_index_or ws w []) ≡ magazines ws + caches 0 new
  magazines-set w [] new lt = absurd (omega arith)
  magazines-set zero (cs ∷ ws) new lt = omega arith
  magazines-set (suc w) (cs ∷ ws) new lt = omega (arith, magazines-set w ws new (omega arith))

  -- the depot of an order
  pub depots-set : (j o : ℕ) (ds : List (List (List ℕ))) (new : List (List ℕ)) → o < length ds → depots j (slice_set ds o new) + lists (j + o) (slice_index_or ds o []) ≡ depots j ds + lists (j + o) new
  depots-set j o [] new lt = absurd (omega arith)
  depots-set j zero (d ∷ ds) new lt = let e : j + 0 ≡ j = omega arith in rw e (omega arith)
  depots-set j (suc o) (d ∷ ds) new lt = let e : j + suc o ≡ j + 1 + o = omega arith in rw e (omega (arith, depots-set (j + 1) o ds new (omega arith)))

  -- a ring
  pub rings-set : (q : ℕ) (rs : List (List Entry)) (new : List Entry) → q < length rs → rings (slice_set rs q new) + entries (slice_index_or rs q []) ≡ rings rs + entries new
  rings-set q [] new lt = absurd (omega arith)
  rings-set zero (r ∷ rs) new lt = omega arith
  rings-set (suc q) (r ∷ rs) new lt = omega (arith, rings-set q rs new (omega arith))

  -- Rings.

  -- two lists, one after the other
  pub entries-append : (xs ys : List Entry) → entries (xs ++ ys) ≡ entries xs + entries ys
  entries-append [] ys = omega arith
  entries-append (x ∷ xs) ys = omega (arith, entries-append xs ys)

  -- what a drain leaves, and what it takes out
  pub entries-unflushed : (finish : ℕ) (es : List Entry) → entries (unflushed_rest finish es) + ranges (map entry_range (flushed_front finish es)) ≡ entries es
  entries-unflushed finish [] = refl
  entries-unflushed finish (e ∷ es) = flushed_step (entries-unflushed finish es) (nat_lt e.count finish) refl
    where
      flushed_step : entries (unflushed_rest finish es) + ranges (map entry_range (flushed_front finish es)) ≡ entries es → (b : Bool) → nat_lt e.count finish ≡ b → entries (unflushed_rest finish (e ∷ es)) + ranges (map entry_range (flushed_front finish (e ∷ es))) ≡ entries (e ∷ es)
      flushed_step more true is = rw is (omega arith)
      flushed_step more false is = rw is (omega arith)

  -- Clients.

  -- two lists, one after the other
  pub clients-append : (xs ys : List Client) → clients (xs ++ ys) ≡ clients xs + clients ys
  clients-append [] ys = omega arith
  clients-append (x ∷ xs) ys = omega (arith, clients-append xs ys)

  -- a change to the client that is found
  pub clients-changed : (id : ℕ) (change : Client → Client) (c : Client) (cs : List Client) → client_with id cs ≡ Some c → clients (change_client id change cs) + ranges c.holdings ≡ clients cs + ranges (change c).holdings
  clients-changed id change c [] found = absurd cc
  clients-changed id change c (x ∷ cs) found = changed_step (λ e. clients-changed id change c cs e) (has_id id x) refl
    where
      changed_step : (client_with id cs ≡ Some c → clients (change_client id change cs) + ranges c.holdings ≡ clients cs + ranges (change c).holdings) → (b : Bool) → has_id id x ≡ b → clients (change_client id change (x ∷ cs)) + ranges c.holdings ≡ clients (x ∷ cs) + ranges (change c).holdings
      changed_step more true is =
          let found' = rw is at found in
          let same : x ≡ c = cc (found') in
          rw is (omega (arith, ap (λ y. ranges y.holdings) same, ap (λ y. ranges (change y).holdings) same))
      changed_step more false is = rw is (omega (arith, more (rw is at found)))

  -- a mark changes no holdings
  pub clients-marked : (id : ℕ) (cs : List Client) → clients (change_client id with_mark cs) ≡ clients cs
  clients-marked id [] = refl
  clients-marked id (c ∷ cs) =
      cond_both (has_id id c) (with_mark c ∷ cs) (c ∷ change_client id with_mark cs) (λ l. clients l ≡ clients (c ∷ cs)) (λ e. refl) (λ e. omega (arith, clients-marked id cs))

  -- the client that is found goes
  pub clients-forgotten : (id : ℕ) (c : Client) (cs : List Client) → client_with id cs ≡ Some c → clients (without_client id cs) + ranges c.holdings ≡ clients cs
  clients-forgotten id c [] found = absurd cc
  clients-forgotten id c (x ∷ cs) found = forgotten_step (λ e. clients-forgotten id c cs e) (has_id id x) refl
    where
      forgotten_step : (client_with id cs ≡ Some c → clients (without_client id cs) + ranges c.holdings ≡ clients cs) → (b : Bool) → has_id id x ≡ b → clients (without_client id (x ∷ cs)) + ranges c.holdings ≡ clients (x ∷ cs)
      forgotten_step more true is =
          let found' = rw is at found in
          let same : x ≡ c = cc (found') in
          rw is (omega (arith, ap (λ y. ranges y.holdings) same))
      forgotten_step more false is = rw is (omega (arith, more (rw is at found)))

  -- what a client holds weighs no more than what all clients do
  pub holdings_le : (id : ℕ) (c : Client) (cs : List Client) → client_with id cs ≡ Some c → ranges c.holdings ≤ clients cs
  holdings_le id c cs found = omega (arith, clients-forgotten id c cs found)

  -- Nothing is cached.

  -- of a worker
  caches_none : (o : ℕ) (cs : List Cache) → caches o (map (λ c. no_magazines) cs) ≡ 0
  caches_none o [] = refl
  caches_none o (c ∷ cs) = omega (arith, caches_none (o + 1) cs)

  -- of all workers
  pub magazines_none : (ws : List (List Cache)) → magazines (map (λ cs. map (λ c. no_magazines) cs) ws) ≡ 0
  magazines_none [] = refl
  magazines_none (cs ∷ ws) = omega (arith, magazines_none ws, caches_none 0 cs)

  -- in the depot
  pub depots_none : (o : ℕ) (ds : List (List (List ℕ))) → depots o (map (λ d. []) ds) ≡ 0
  depots_none o [] = refl
  depots_none o (d ∷ ds) = omega (arith, depots_none (o + 1) ds)
