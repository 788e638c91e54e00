-- What a get and a put make of the weight of the caches: nothing is lost, and nothing is made.
use Rattle.std.proofs.Common.{ℕ, ◌≡◌, ◌+◌, ◌-◌, ◌^◌, ◌<◌, ◌≤◌, Bool, true, false, cond, not, List, [], ◌∷◌, length, Option, Some, None, refl, ap, arith}
use Rattle.std.specs.Prelude.{nat_lt, slice_index_or, slice_set}
use Rattle.std.proofs.lemmas.Bool.{cond_both}
use Rattle.iova_range.specs.Frames.{Frames}
use Rattle.iova_range.specs.Sizes.{order_of}
use Rattle.iova_range.specs.Bounds.{Capacities}
use Rattle.iova_model.specs.Caches.{Cache, Caches, Shelf, no_magazines, is_empty, last_or, front, shelf_at, with_shelf, reload, fitting, pop_entry, get, with_room, put, sent_out, put_range, put_all, freed_by_put, freed_by_puts, without_entries}
use Rattle.iova_model.specs.Valid.{AreCaches}
use Rattle.iova_model.proofs.Placing.{greatest_some}
use Rattle.iova_laws.proofs.Weight as weight
use Rattle.iova_laws.proofs.ValidCaches.{order_is, HasShelf, has_shelf, put_range_valid}

-- the test for an empty list
not_empty : {A : Type 0} (xs : List A) → not (is_empty xs) ≡ false → xs ≡ []
not_empty [] e = refl
not_empty (x ∷ xs) e = absurd cc

module _ (weigh : Frames → ℕ) where
  -- a shelf in place of another
  pub cached_with : (p : Capacities) (c : Caches) (w o : ℕ) (s : Shelf) → HasShelf p c w o → weight.cached weigh (with_shelf c w o s) + weight.shelf weigh o (shelf_at c w o) ≡ weight.cached weigh c + weight.shelf weigh o s
  cached_with p c w o s has =
      let x : Cache = record { loaded = s.loaded; previous = s.previous } in
      let mine = slice_index_or c.workers w [] in
      let at_zero : 0 + o ≡ o = omega arith in
      let a : weight.caches weigh 0 (slice_set mine o x) + weight.cache weigh o (slice_index_or mine o no_magazines) ≡ weight.caches weigh 0 mine + weight.cache weigh o x = rw at_zero at (weight.caches-set weigh 0 o mine x has.order) in
      let b : weight.depots weigh 0 (slice_set c.depots o s.depot) + weight.lists weigh o (slice_index_or c.depots o []) ≡ weight.depots weigh 0 c.depots + weight.lists weigh o s.depot = rw at_zero at (weight.depots-set weigh 0 o c.depots s.depot has.depot) in
      omega (arith, a, b, weight.magazines-set weigh w c.workers (slice_set mine o x) has.worker)

  -- the depot's last list and the others
  depot_last : (o : ℕ) (d : List (List ℕ)) → weight.lists weigh o (front d) + weight.firsts weigh o (last_or [] d) ≡ weight.lists weigh o d
  depot_last o [] = refl
  depot_last o (x ∷ xs) = let e : length (x ∷ xs) - 1 ≡ length xs = omega arith in rw e (weight.lists_last weigh o (length xs) (x ∷ xs) refl)

  -- Gets.

  -- the moves before a get
  shelf-reloaded : (o : ℕ) (s : Shelf) → weight.shelf weigh o (reload s) ≡ weight.shelf weigh o s
  shelf-reloaded o s =
      let turned : Shelf = record { loaded = s.previous; previous = s.loaded; depot = s.depot } in
      let refilled : Shelf = record { loaded = last_or [] s.depot; previous = []; depot = front s.depot } in
      let Same : Shelf → Type 0 = λ x. weight.shelf weigh o x ≡ weight.shelf weigh o s in
      cond_both (not (is_empty s.loaded)) s (cond (not (is_empty s.previous)) turned refilled) Same
      (λ e. refl)
      (λ e. cond_both (not (is_empty s.previous)) turned refilled Same
      (λ f. omega arith)
      (λ f. omega (arith, depot_last o s.depot, ap (weight.firsts weigh o) (not_empty s.loaded e), ap (weight.firsts weigh o) (not_empty s.previous f))))

  -- what a get leaves, with what it gives
  abbrev pub Pops : ℕ → Shelf → Option ℕ → Shelf → Type 0
  Pops o s None t = weight.shelf weigh o t ≡ weight.shelf weigh o s
  Pops o s (Some lo) t = weight.shelf weigh o t + weigh (record { lo = lo; len = 2 ^ o }) ≡ weight.shelf weigh o s

  -- an entry leaves, or none
  popped_pops : (o : ℕ) (s : Shelf) (limit size : ℕ) (x : Option ℕ) → fitting s.loaded limit size ≡ x → Pops o s (pop_entry s x).0 (pop_entry s x).1
  popped_pops o s limit size None is = refl
  popped_pops o s limit size (Some i) is =
      omega (arith, weight.firsts-swap_remove weigh o i s.loaded (greatest_some _ (length s.loaded) i is).below)

  -- the moves before it change no weight
  pops_reloaded : (o : ℕ) (s : Shelf) (x : Option ℕ) (t : Shelf) → Pops o (reload s) x t → Pops o s x t
  pops_reloaded o s None t h = omega (arith, h, shelf-reloaded o s)
  pops_reloaded o s (Some lo) t h = omega (arith, h, shelf-reloaded o s)

  -- so a get takes what it gives
  pub get_pops : (o : ℕ) (s : Shelf) (limit size : ℕ) → Pops o s (get s limit size).0 (get s limit size).1
  get_pops o s limit size =
      pops_reloaded o s _ _ (popped_pops o (reload s) limit size (fitting (reload s).loaded limit size) refl)

  -- Puts.

  -- what a put leaves, and what it sends out
  room_step : (p : Capacities) (o : ℕ) (s : Shelf) (a b c : Bool) → nat_lt (length s.loaded) p.mag ≡ a → nat_lt (length s.previous) p.mag ≡ b → nat_lt (length s.depot) p.depot ≡ c → weight.shelf weigh o (with_room p s) + weight.firsts weigh o (sent_out p s) ≡ weight.shelf weigh o s
  room_step p o s true b c x y z = rw x (omega arith)
  room_step p o s false true c x y z = rw (x, y) (omega arith)
  room_step p o s false false true x y z = rw (x, y, z) (omega (arith, weight.lists-append weigh o s.depot (s.loaded ∷ [])))
  room_step p o s false false false x y z = rw (x, y, z) (omega arith)

  -- a put adds its entry
  shelf-put : (p : Capacities) (o : ℕ) (s : Shelf) (lo : ℕ) → weight.shelf weigh o (put p s lo) + weight.firsts weigh o (sent_out p s) ≡ weight.shelf weigh o s + weigh (record { lo = lo; len = 2 ^ o })
  shelf-put p o s lo =
      omega (arith, room_step p o s (nat_lt (length s.loaded) p.mag) (nat_lt (length s.previous) p.mag) (nat_lt (length s.depot) p.depot) refl refl refl, weight.firsts-append weigh o (with_room p s).loaded (lo ∷ []))

  -- a range that goes to the magazines weighs what it adds and what becomes free
  cached-put_range : (p : Capacities) (n : ℕ) (c : Caches) (w : ℕ) (r : Frames) (x : Option ℕ) → order_of r.len ≡ x → AreCaches p n c → w < n → weight.cached weigh (put_range p c w r x) + weight.ranges weigh (freed_by_put p c w r x) ≡ weight.cached weigh c + weigh r
  cached-put_range p n c w r None is h below = omega arith
  cached-put_range p n c w r (Some o) is h below =
      let order = order_is r.len o is in
      let s = shelf_at c w o in
      let same : weigh (record { lo = r.lo; len = 2 ^ o }) ≡ weigh r = ap (λ len. weigh (record { lo = r.lo; len = len })) order.power in
      omega (arith, cached_with p c w o (put p s r.lo) (has_shelf p n c w o h below order.few), shelf-put p o s r.lo, same, weight.ranges-of_order weigh o (sent_out p s))

  -- ranges that go to the magazines weigh what they add and what becomes free
  pub cached-put_all : (p : Capacities) (n : ℕ) (c : Caches) (w : ℕ) (rs : List Frames) → 1 ≤ p.mag → AreCaches p n c → w < n → weight.cached weigh (put_all p c w rs) + weight.ranges weigh (freed_by_puts p c w rs) ≡ weight.cached weigh c + weight.ranges weigh rs
  cached-put_all p n c w [] takes h below = omega arith
  cached-put_all p n c w (r ∷ rs) takes h below =
      let c' = put_range p c w r (order_of r.len) in
      let h' = put_range_valid p n c w r (order_of r.len) refl takes below h in
      omega (arith, cached-put_all p n c' w rs takes h' below, cached-put_range p n c w r (order_of r.len) refl h below, weight.ranges-append weigh (freed_by_put p c w r (order_of r.len)) (freed_by_puts p c' w rs))

  -- emptied caches have nothing
  pub cached-emptied : (c : Caches) → weight.cached weigh (without_entries c) ≡ 0
  cached-emptied c = omega (arith, weight.magazines_none weigh c.workers, weight.depots_none weigh 0 c.depots)
