-- A ring that is drained, entry by entry, and caches that are emptied.
use Rattle.std.proofs.Common.{ℕ, ◌≡◌, ◌+◌, ◌*◌, ◌≤◌, ◌<◌, Bool, true, false, nat_lt, if◌then◌else◌, List, [], ◌∷◌, ◌++◌, length, take, drop, refl, sym, ap, subst, ◌∙◌, arith, map, sum_by, append_assoc}
use Rattle.std.specs.List.{AllByRecursion}
use Rattle.std.proofs.Math.ListN.{get_or}
use Rattle.std.proofs.lemmas.Bool.Decides.{nat_tests}
use Rattle.std.proofs.lemmas.List.{append-nil, length-append, map-append, drop_more}
use Rattle.std.proofs.lemmas.List.Sums.{sum_by-cons, sum_by-take-drop, sum_by-take-le, sum_by-drop_more}
use Rattle.iova_range.specs.Frames.{Frames}
use Rattle.iova_range.specs.Sizes.{order_of}
use Rattle.iova_range.specs.Bounds.{Capacities}
use Rattle.iova_model.specs.declared.entry.Entry.{Entry}
use Rattle.iova_model.specs.Caches.{Caches, put_range, put_all, without_entries}
use Rattle.iova_model.specs.Flushes.{entry_range, flushed_front, unflushed_rest}
use Rattle.iova_model.specs.Valid.{IsRequestSizedEntry}
use Rattle.iova_depot.specs.Cached.{Cached, IsCached, LosesOnly}
use Rattle.iova_flush.specs.Rings.{frame_count}
use Rattle.iova_tree.specs.Space.{Space, IsSpace}
use Rattle.iova_core.specs.Reclaim.{HasAll, Frees, IsBacked, IsDrained, Exchanges, with_range}
use Rattle.iova_laws.proofs.Weights as weight

-- nothing has moved
pub exchanges_none : (tree : Space) (c : Cached) → IsSpace tree → IsCached c → Exchanges tree tree c c [] []
exchanges_none tree c space cached = record {
  space = space;
  cached = cached;
  bounds = refl;
  windows = refl;
  profile = refl;
  workers = refl;
  balance = λ weigh. refl;
}

-- What is backed still, once some of it has gone.

pub backed_left : (tree tree' : Space) (c c' : Cached) (taken rest all : List Frames) → IsBacked tree c all → all ≡ taken ++ rest → Exchanges tree tree' c c' [] taken → IsBacked tree' c' rest
backed_left tree tree' c c' taken rest all backed is ex = record {
  space = ex.space;
  cached = ex.cached;
  has = λ weigh.
      let split : sum_by weigh all ≡ weight.ranges weigh taken + weight.ranges weigh rest = weight.ranges_are weigh all ∙ (ap (weight.ranges weigh) is ∙ weight.ranges-append weigh taken rest) in
      omega (arith, backed.has weigh, ex.balance weigh, split, weight.ranges_are weigh taken, weight.ranges_are weigh rest, weight.ranges_are weigh []);
}

-- one exchange after another
pub exchanges_then : (tree mid tree' : Space) (c d c' : Cached) (taken more : List Frames) → Exchanges tree mid c d [] taken → Exchanges mid tree' d c' [] more → Exchanges tree tree' c c' [] (taken ++ more)
exchanges_then tree mid tree' c d c' taken more a b = record {
  space = b.space;
  cached = b.cached;
  bounds = b.bounds ∙ a.bounds;
  windows = b.windows ∙ a.windows;
  profile = b.profile ∙ a.profile;
  workers = b.workers ∙ a.workers;
  balance = λ weigh. omega (arith, a.balance weigh, b.balance weigh, weight.ranges_are weigh (taken ++ more), weight.ranges-append weigh taken more, weight.ranges_are weigh taken, weight.ranges_are weigh more, weight.ranges_are weigh []);
}

-- Drains.

put_all_push : (p : Capacities) (c : Caches) (w : ℕ) (rs : List Frames) (r : Frames) → put_all p c w (rs ++ r ∷ []) ≡ put_range p (put_all p c w rs) w r (order_of r.len)
put_all_push p c w [] r = refl
put_all_push p c w (x ∷ rs) r = put_all_push p (put_range p c w x (order_of x.len)) w rs r

put_all-append : (p : Capacities) (c : Caches) (w : ℕ) (rs qs : List Frames) → put_all p c w (rs ++ qs) ≡ put_all p (put_all p c w rs) w qs
put_all-append p c w [] qs = refl
put_all-append p c w (r ∷ rs) qs = put_all-append p (put_range p c w r (order_of r.len)) w rs qs

-- what others have in front is backed without the rest
pub backed_front : (tree : Space) (c : Cached) (rs front rest : List Frames) → IsBacked tree c rs → rs ≡ front ++ rest → IsBacked tree c front
backed_front tree c rs front rest backed is = record {
  space = backed.space;
  cached = backed.cached;
  has = λ weigh.
      let split : sum_by weigh rs ≡ weight.ranges weigh front + weight.ranges weigh rest = weight.ranges_are weigh rs ∙ (ap (weight.ranges weigh) is ∙ weight.ranges-append weigh front rest) in
      omega (arith, backed.has weigh, split, weight.ranges_are weigh front);
}

-- entries that leave a row leave it with whatever stands behind it
flushed_with : (finish : ℕ) (out left rest : List Entry) → flushed_front finish (out ++ left) ≡ out ++ flushed_front finish left
    → flushed_front finish (out ++ (left ++ rest)) ≡ out ++ flushed_front finish (left ++ rest)
flushed_with finish [] left rest h = refl
flushed_with finish (e ∷ out) left rest h = step (nat_lt e.count finish) h (λ same. flushed_with finish out left rest same)
  where
    step : (b : Bool) → (if b then e ∷ flushed_front finish (out ++ left) else []) ≡ e ∷ (out ++ flushed_front finish left)
        → (flushed_front finish (out ++ left) ≡ out ++ flushed_front finish left → flushed_front finish (out ++ (left ++ rest)) ≡ out ++ flushed_front finish (left ++ rest))
        → (if b then e ∷ flushed_front finish (out ++ (left ++ rest)) else []) ≡ e ∷ (out ++ flushed_front finish (left ++ rest))
    step true is more = ap (λ l. e ∷ l) (more cc)
    step false is more = absurd cc

unflushed_with : (finish : ℕ) (out left rest : List Entry) → flushed_front finish (out ++ left) ≡ out ++ flushed_front finish left
    → unflushed_rest finish (out ++ (left ++ rest)) ≡ unflushed_rest finish (left ++ rest)
unflushed_with finish [] left rest h = refl
unflushed_with finish (e ∷ out) left rest h = step (nat_lt e.count finish) h (λ same. unflushed_with finish out left rest same)
  where
    step : (b : Bool) → (if b then e ∷ flushed_front finish (out ++ left) else []) ≡ e ∷ (out ++ flushed_front finish left)
        → (flushed_front finish (out ++ left) ≡ out ++ flushed_front finish left → unflushed_rest finish (out ++ (left ++ rest)) ≡ unflushed_rest finish (left ++ rest))
        → (if b then unflushed_rest finish (out ++ (left ++ rest)) else e ∷ (out ++ (left ++ rest))) ≡ unflushed_rest finish (left ++ rest)
    step true is more = more cc
    step false is more = absurd cc

pub drained_none : (tree : Space) (c : Cached) (ring : List Entry) (w finish : ℕ) (rs : List Frames) → IsBacked tree c rs → IsDrained tree tree c c ring ring w finish 0
drained_none tree c ring w finish rs backed = record {
  out = [];
  taken = refl;
  flushed = refl;
  left = refl;
  counted = refl;
  caches = refl;
  exchange = exchanges_none tree c backed.space backed.cached;
}

module _ (tree mid : Space) (c d : Cached) (ring ring' : List Entry) (w finish count : ℕ) (h : IsDrained tree mid c d ring ring' w finish count) where
  pub drained_backed : IsBacked tree c (map entry_range ring) → IsBacked mid d (map entry_range ring')
  drained_backed backed =
      backed_left tree mid c d (map entry_range h.out) (map entry_range ring') (map entry_range ring) backed (ap (map entry_range) h.taken ∙ map-append entry_range h.out ring') h.exchange

  pub drained_few : length ring ≤ 255 → count + length ring' ≤ 255
  drained_few few = omega (arith, few, ap length h.taken, length-append h.out ring', h.counted)

  -- one entry more
  pub drained_next : (tree' : Space) (c' : Cached) (e : Entry) (later : List Entry) → ring' ≡ e ∷ later → flushed_front finish ring' ≡ e ∷ flushed_front finish later → unflushed_rest finish later ≡ unflushed_rest finish ring'
      → c' ≡ record d { caches = put_range d.profile d.caches w (entry_range e) (order_of e.len) } → Exchanges mid tree' d c' [] (entry_range e ∷ []) → IsDrained tree tree' c c' ring later w finish (count + 1)
  drained_next tree' c' e later oldest next rest now ex =
      let outs : map entry_range (h.out ++ e ∷ []) ≡ map entry_range h.out ++ entry_range e ∷ [] = map-append entry_range h.out (e ∷ []) in
      let made : Capacities → ℕ → Caches → Cached = λ p n x. record { profile = p; workers = n; caches = x } in
      let p_is : d.profile ≡ c.profile = ap (λ (x : Cached). x.profile) h.caches in
      let n_is : d.workers ≡ c.workers = ap (λ (x : Cached). x.workers) h.caches in
      let d_is : d.caches ≡ put_all c.profile c.caches w (map entry_range h.out) = ap (λ (x : Cached). x.caches) h.caches in
      let put_is : put_range d.profile d.caches w (entry_range e) (order_of e.len) ≡ put_all c.profile c.caches w (map entry_range (h.out ++ e ∷ [])) =
      ap (λ q. put_range q d.caches w (entry_range e) (order_of e.len)) p_is
      ∙ (ap (λ x. put_range c.profile x w (entry_range e) (order_of e.len)) d_is
      ∙ (sym (put_all_push c.profile c.caches w (map entry_range h.out) (entry_range e)) ∙ ap (λ rs. put_all c.profile c.caches w rs) (sym outs))) in
      record {
        out = h.out ++ e ∷ [];
        taken = h.taken ∙ (ap (λ l. h.out ++ l) oldest ∙ sym (append_assoc h.out (e ∷ []) later));
        flushed = h.flushed ∙ (ap (λ l. h.out ++ l) next ∙ sym (append_assoc h.out (e ∷ []) (flushed_front finish later)));
        left = h.left ∙ sym rest;
        counted = omega (arith, h.counted, length-append h.out (e ∷ []));
        caches = now ∙ (ap (λ q. made q d.workers (put_range d.profile d.caches w (entry_range e) (order_of e.len))) p_is ∙ (ap (λ n. made c.profile n (put_range d.profile d.caches w (entry_range e) (order_of e.len))) n_is ∙ ap (λ x. made c.profile c.workers x) put_is));
        exchange = rw outs (exchanges_then tree mid tree' c d c' (map entry_range h.out) (entry_range e ∷ []) h.exchange ex);
      }

  -- a row of entries more, which stands in front
  pub drained_row : (tree' : Space) (c' : Cached) (row row' rest : List Entry) (more : ℕ) → ring' ≡ row ++ rest → IsDrained mid tree' d c' row row' w finish more
      → IsDrained tree tree' c c' ring (row' ++ rest) w finish (count + more)
  drained_row tree' c' row row' rest more is m =
      let outs : map entry_range (h.out ++ m.out) ≡ map entry_range h.out ++ map entry_range m.out = map-append entry_range h.out m.out in
      let made : Capacities → ℕ → Caches → Cached = λ p n x. record { profile = p; workers = n; caches = x } in
      let p_is : d.profile ≡ c.profile = ap (λ (x : Cached). x.profile) h.caches in
      let n_is : d.workers ≡ c.workers = ap (λ (x : Cached). x.workers) h.caches in
      let d_is : d.caches ≡ put_all c.profile c.caches w (map entry_range h.out) = ap (λ (x : Cached). x.caches) h.caches in
      let put_is : put_all d.profile d.caches w (map entry_range m.out) ≡ put_all c.profile c.caches w (map entry_range (h.out ++ m.out)) =
      ap (λ q. put_all q d.caches w (map entry_range m.out)) p_is
      ∙ (ap (λ x. put_all c.profile x w (map entry_range m.out)) d_is
      ∙ (sym (put_all-append c.profile c.caches w (map entry_range h.out) (map entry_range m.out)) ∙ ap (λ rs. put_all c.profile c.caches w rs) (sym outs))) in
      let whole : ring' ≡ m.out ++ (row' ++ rest) = is ∙ (ap (λ l. l ++ rest) m.taken ∙ append_assoc m.out row' rest) in
      let front : flushed_front finish (m.out ++ row') ≡ m.out ++ flushed_front finish row' = ap (flushed_front finish) (sym m.taken) ∙ m.flushed in
      let next : flushed_front finish ring' ≡ m.out ++ flushed_front finish (row' ++ rest) = ap (flushed_front finish) whole ∙ flushed_with finish m.out row' rest front in
      record {
        out = h.out ++ m.out;
        taken = h.taken ∙ (ap (λ l. h.out ++ l) whole ∙ sym (append_assoc h.out m.out (row' ++ rest)));
        flushed = h.flushed ∙ (ap (λ l. h.out ++ l) next ∙ sym (append_assoc h.out m.out (flushed_front finish (row' ++ rest))));
        left = h.left ∙ (ap (unflushed_rest finish) whole ∙ unflushed_with finish m.out row' rest front);
        counted = omega (arith, h.counted, m.counted, length-append h.out m.out);
        caches = m.caches ∙ (ap (λ q. made q d.workers (put_all d.profile d.caches w (map entry_range m.out))) p_is ∙ (ap (λ n. made c.profile n (put_all d.profile d.caches w (map entry_range m.out))) n_is ∙ ap (λ x. made c.profile c.workers x) put_is));
        exchange = rw outs (exchanges_then tree mid tree' c d c' (map entry_range h.out) (map entry_range m.out) h.exchange m.exchange);
      }

  -- no entry more
  pub drained_out : flushed_front finish ring' ≡ [] → flushed_front finish ring ≡ h.out
  drained_out none = h.flushed ∙ (ap (λ l. h.out ++ l) none ∙ append-nil h.out)

-- so many entries of a row have gone, which have so many frames
pub record IsRowPut (tree tree' : Space) (c c' : Cached) (row : List Entry) (w finish count frames : ℕ) : Type 0 where
  pub within : count ≤ length row
  pub summed : frames ≡ frame_count (take count row)
  pub drained : IsDrained tree tree' c c' row (drop count row) w finish count

pub row_none : (tree : Space) (c : Cached) (row : List Entry) (w finish : ℕ) (rs : List Frames) → IsBacked tree c rs → IsRowPut tree tree c c row w finish 0 0
row_none tree c row w finish rs backed = record { within = omega arith; summed = refl; drained = drained_none tree c row w finish rs backed }

pub sized_front : (front rest es : List Entry) → front ++ rest ≡ es → AllByRecursion IsRequestSizedEntry es → AllByRecursion IsRequestSizedEntry front
sized_front front rest es is sized = go front (subst (AllByRecursion IsRequestSizedEntry) (sym is) sized)
  where
    go : (xs : List Entry) → AllByRecursion IsRequestSizedEntry (xs ++ rest) → AllByRecursion IsRequestSizedEntry xs
    go [] h = tt
    go (x ∷ xs) h = (h.0, go xs h.1)

row_frames-le : (es : List Entry) → AllByRecursion IsRequestSizedEntry es → frame_count es ≤ length es * 1048576
row_frames-le [] sized = omega arith
row_frames-le (e ∷ es) sized = omega (arith, sum_by-cons (λ (e : Entry). e.len) e es, row_frames-le es sized.1, sized.0)

flushed_next : (finish : ℕ) (e : Entry) (es : List Entry) → e.count < finish → flushed_front finish (e ∷ es) ≡ e ∷ flushed_front finish es
flushed_next finish e es lt = grind (arith, nat_tests)

unflushed_next : (finish : ℕ) (e : Entry) (es : List Entry) → e.count < finish → unflushed_rest finish es ≡ unflushed_rest finish (e ∷ es)
unflushed_next finish e es lt = grind (arith, nat_tests)

module _ (tree mid : Space) (c d : Cached) (row : List Entry) (w finish count frames : ℕ) (none : Entry) (h : IsRowPut tree mid c d row w finish count frames) (there : count < length row) where
  pub row_more : drop count row ≡ get_or row count none ∷ drop (count + 1) row
  row_more = drop_more row count none there

  pub row_backed : IsBacked tree c (map entry_range row) → IsBacked mid d (entry_range (get_or row count none) ∷ [])
  row_backed backed =
      let left : IsBacked mid d (map entry_range (drop count row)) = drained_backed tree mid c d row (drop count row) w finish count h.drained backed in
      backed_front mid d (map entry_range (drop count row)) (entry_range (get_or row count none) ∷ []) (map entry_range (drop (count + 1) row)) left (ap (map entry_range) row_more)

  pub row_summed : frames + (get_or row count none).len ≡ frame_count (take (count + 1) row)
  row_summed = omega (arith, h.summed, sum_by-take-drop (λ (e : Entry). e.len) row count, sum_by-take-drop (λ (e : Entry). e.len) row (count + 1), sum_by-drop_more (λ (e : Entry). e.len) row count none there)

  pub row_fits : AllByRecursion IsRequestSizedEntry row → length row ≤ 255 → frames + (get_or row count none).len < 18446744073709551616
  row_fits sized few = omega (arith, row_summed, sum_by-take-le (λ (e : Entry). e.len) row (count + 1), row_frames-le row sized, few)

  pub row_next : (tree' : Space) (c' : Cached) → (get_or row count none).count < finish → c' ≡ with_range d w (entry_range (get_or row count none)) → Exchanges mid tree' d c' [] (entry_range (get_or row count none) ∷ [])
      → IsRowPut tree tree' c c' row w finish (count + 1) (frames + (get_or row count none).len)
  row_next tree' c' below now ex = record {
    within = omega (arith, there);
    summed = row_summed;
    drained = drained_next tree mid c d row (drop count row) w finish count h.drained tree' c' (get_or row count none) (drop (count + 1) row) row_more
        (ap (flushed_front finish) row_more ∙ flushed_next finish (get_or row count none) (drop (count + 1) row) below)
        (unflushed_next finish (get_or row count none) (drop (count + 1) row) below ∙ sym (ap (unflushed_rest finish) row_more))
        now ex;
  }

-- Caches that are emptied.

-- Some of what was cached is free.
pub record IsEmptying (tree tree' : Space) (c c' : Cached) : Type 0 where
  pub same : c' ≡ record c { caches = c'.caches }
  pub empty : without_entries c'.caches ≡ without_entries c.caches
  pub exchange : Exchanges tree tree' c c' [] []

pub emptying_none : (tree : Space) (c : Cached) (rs : List Frames) → IsBacked tree c rs → IsEmptying tree tree c c
emptying_none tree c rs backed = record { same = refl; empty = refl; exchange = exchanges_none tree c backed.space backed.cached }

module _ (tree mid : Space) (c d : Cached) (h : IsEmptying tree mid c d) where
  -- the tree has the range that leaves
  pub emptying_has : (c' : Cached) (r : Frames) (rs : List Frames) → IsBacked tree c rs → LosesOnly r d.caches c'.caches → HasAll mid (r ∷ [])
  emptying_has c' r rs backed loses weigh =
      omega (arith, backed.has weigh, h.exchange.balance weigh, loses weigh, weight.ranges_are weigh (r ∷ []), weight.ranges_are weigh [])

  -- one range more
  pub emptying_next : (tree' : Space) (c' : Cached) (r : Frames) → c' ≡ record d { caches = c'.caches } → without_entries c'.caches ≡ without_entries d.caches → LosesOnly r d.caches c'.caches → IsCached c' → Frees mid tree' (r ∷ []) → IsEmptying tree tree' c c'
  emptying_next tree' c' r same empty loses cached frees =
      let made : Capacities → ℕ → Cached = λ p n. record { profile = p; workers = n; caches = c'.caches } in
      let p_is : d.profile ≡ c.profile = ap (λ (x : Cached). x.profile) h.same in
      let n_is : d.workers ≡ c.workers = ap (λ (x : Cached). x.workers) h.same in
      record {
        same = same ∙ (ap (λ p. made p d.workers) p_is ∙ ap (λ n. made c.profile n) n_is);
        empty = empty ∙ h.empty;
        exchange = record {
          space = frees.space;
          cached = cached;
          bounds = frees.bounds ∙ h.exchange.bounds;
          windows = frees.windows ∙ h.exchange.windows;
          profile = ap (λ (x : Cached). x.profile) same ∙ p_is;
          workers = ap (λ (x : Cached). x.workers) same ∙ n_is;
          balance = λ weigh. omega (arith, frees.balance weigh, loses weigh, h.exchange.balance weigh, weight.ranges_are weigh (r ∷ []), weight.ranges_are weigh []);
        };
      }

  -- nothing is left
  pub emptying_done : (c' : Cached) → without_entries d.caches ≡ d.caches → c'.caches ≡ d.caches → c' ≡ record d { caches = c'.caches } → (c' ≡ d) × (d ≡ record c { caches = without_entries c.caches })
  emptying_done c' none left same =
      let made : Caches → Cached = λ x. record c { caches = x } in
      let of_d : Caches → Cached = λ x. record d { caches = x } in
      (same ∙ ap of_d left, h.same ∙ ap made (sym none ∙ h.empty))
