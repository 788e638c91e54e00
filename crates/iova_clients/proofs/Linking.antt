-- Chains as a range comes in, as the last one goes, and as one takes another's place.
use Rattle.std.proofs.Common.{◌≡◌, ◌≢◌, ◌⊎◌, inl, inr, ℕ, ◌+◌, ◌-◌, ◌<◌, ◌≤◌, List, length, set, get_or, refl, subst, sym, ap, arith, ◌∙◌}
use Rattle.std.proofs.lemmas.Bool.{cases_eq, cases_lt}
use Rattle.std.proofs.lemmas.List.{get_or-set_same, get_or-set_other, length-set}
use Rattle.iova_range.specs.Frames.{Frames}
use Rattle.iova_clients.specs.Chains.{chain_of, chain_at, range_at, IsLast, IsEntry, AreChains}

pub by_either : {A B P : Type 0} → A ⊎ B → (A → P) → (B → P) → P
by_either (inl a) f g = f a
by_either (inr b) f g = g b

pub last_same : (at new : ℕ → ℕ) (c n m : ℕ) → ((k : ℕ) → k < n → new k ≡ at k) → IsLast at c n m → IsLast new c n m
last_same at new c n m same h = record {
  within = h.within;
  here = λ pos. same (m - 1) (omega (arith, h.within, pos)) ∙ h.here pos;
  none = λ k ge lt is. h.none k ge lt (sym (same k lt) ∙ is);
}

-- chains of other cells that agree so far
pub chains_same : (at new : ℕ → ℕ) (size n : ℕ) (links : List ℕ) → ((k : ℕ) → k < n → new k ≡ at k) → AreChains at size n links → AreChains new size n links
chains_same at new size n links same h = record {
  long = h.long;
  each = λ e c b entry. by_either entry
      (λ here. let at_same : new e ≡ at e = same e here.0 in
      last_same at new c b (get_or links e 0) (λ k lt. same k (omega (arith, here.0, here.2, lt))) (h.each e c b (inl (here.0, here.1 ∙ at_same, here.2))))
      (λ here. last_same at new c b (get_or links e 0) (λ k lt. same k (omega (arith, here.2, lt))) (h.each e c b (inr here)));
}

-- what stands at an entry after two writes
pub read_second : (links : List ℕ) (i j a b : ℕ) → j < length links → get_or (set (set links i a) j b) j 0 ≡ b
read_second links i j a b lt = get_or-set_same (set links i a) j b 0 (rw (length-set links i a) lt)

pub read_first : (links : List ℕ) (i j a b : ℕ) → i < length links → i ≢ j → get_or (set (set links i a) j b) i 0 ≡ a
read_first links i j a b lt ne = get_or-set_other (set links i a) j i b 0 ne ∙ get_or-set_same links i a 0 lt

pub read_past : (links : List ℕ) (i j a b e : ℕ) → e ≢ i → e ≢ j → get_or (set (set links i a) j b) e 0 ≡ get_or links e 0
read_past links i j a b e ne ne' = get_or-set_other (set links i a) j e b 0 ne' ∙ get_or-set_other links i e a 0 ne

-- the range at n comes in
pub linked : (at : ℕ → ℕ) (size n : ℕ) (links : List ℕ) → n < size → at n < size → AreChains at size n links
    → AreChains at size (n + 1) (set (set links n (get_or links (size + at n) 0)) (size + at n) (n + 1))
linked at size n links lt own h = record {
  long = length-set (set links n (get_or links (size + at n) 0)) (size + at n) (n + 1) ∙ length-set links n (get_or links (size + at n) 0) ∙ h.long;
  each = λ e c b entry. by_either entry (place e c b) (head e c b);
}
  where
    new : List ℕ
    new = set (set links n (get_or links (size + at n) 0)) (size + at n) (n + 1)

    at_head : get_or new (size + at n) 0 ≡ n + 1
    at_head = read_second links n (size + at n) (get_or links (size + at n) 0) (n + 1) (omega (arith, h.long, own))

    at_place : get_or new n 0 ≡ get_or links (size + at n) 0
    at_place = read_first links n (size + at n) (get_or links (size + at n) 0) (n + 1) (omega (arith, h.long, lt)) (omega (arith, lt))

    past : (e : ℕ) → e ≢ n → e ≢ size + at n → get_or new e 0 ≡ get_or links e 0
    past e ne ne' = read_past links n (size + at n) (get_or links (size + at n) 0) (n + 1) e ne ne'

    place : (e c b : ℕ) → (e < n + 1) × (c ≡ at e) × (b ≡ e) → IsLast at c b (get_or new e 0)
    place e c b here = by_either (cases_eq e n)
        (λ is. let first = h.each (size + at n) (at n) n (inr (refl, own, refl)) in
        let chain : c ≡ at n = here.1 ∙ ap at is in
        let bound : b ≡ n = here.2 ∙ is in
        rw (chain, bound, is, at_place) first)
        (λ ne. let old = h.each e c b (inl (omega (arith, here.0, ne), here.1, here.2)) in
        rw (past e ne (omega (arith, here.0, lt))) old)

    head : (e c b : ℕ) → (e ≡ size + c) × (c < size) × (b ≡ n + 1) → IsLast at c b (get_or new e 0)
    head e c b here = by_either (cases_eq c (at n))
        (λ is. let same : e ≡ size + at n = here.0 ∙ ap (λ x. size + x) is in
        rw (here.2, same, at_head) (record {
          within = omega arith;
          here = λ pos. let m : n + 1 - 1 ≡ n = omega arith in rw m (sym is);
          none = λ k ge less. absurd (omega (arith, ge, less));
        }))
        (λ ne. let old = h.each e c n (inr (here.0, here.1, refl)) in
        let other : e ≢ size + at n = λ same. ne (omega (arith, same, here.0)) in
        rw (here.2, past e (omega (arith, here.0, lt)) other) (record {
          within = omega (arith, old.within);
          here = old.here;
          none = λ k ge less is. by_either (cases_eq k n) (λ last. ne (sym (sym (ap at last) ∙ is))) (λ before. old.none k ge (omega (arith, less, before)) is);
        }))

-- the last range goes out of its chain
pub unlinked : (at : ℕ → ℕ) (size n : ℕ) (links : List ℕ) → n < size → at n < size → AreChains at size (n + 1) links
    → AreChains at size n (set links (size + at n) (get_or links n 0))
unlinked at size n links lt own h = record {
  long = length-set links (size + at n) (get_or links n 0) ∙ h.long;
  each = λ e c b entry. by_either entry (place e c b) (head e c b);
}
  where
    place : (e c b : ℕ) → (e < n) × (c ≡ at e) × (b ≡ e) → IsLast at c b (get_or (set links (size + at n) (get_or links n 0)) e 0)
    place e c b here =
        let past = get_or-set_other links (size + at n) e (get_or links n 0) 0 (omega (arith, here.0, lt)) in
        rw past (h.each e c b (inl (omega (arith, here.0), here.1, here.2)))

    head : (e c b : ℕ) → (e ≡ size + c) × (c < size) × (b ≡ n) → IsLast at c b (get_or (set links (size + at n) (get_or links n 0)) e 0)
    head e c b here = by_either (cases_eq c (at n))
        (λ is. let same : e ≡ size + at n = here.0 ∙ ap (λ x. size + x) is in
        let now : get_or (set links (size + at n) (get_or links n 0)) e 0 ≡ get_or links n 0 =
        rw same (get_or-set_same links (size + at n) (get_or links n 0) 0 (omega (arith, h.long, own))) in
        rw (now, here.2, is) (h.each n (at n) n (inl (omega arith, refl, refl))))
        (λ ne. let old = h.each e c (n + 1) (inr (here.0, here.1, refl)) in
        let other : e ≢ size + at n = λ same. ne (omega (arith, same, here.0)) in
        let past = get_or-set_other links (size + at n) e (get_or links n 0) 0 other in
        rw (past, here.2) (record {
          within = by_either (cases_eq (get_or links e 0) (n + 1))
              (λ last. let m : get_or links e 0 - 1 ≡ n = omega (arith, last) in
              absurd (ne (sym (old.here (omega (arith, last))) ∙ ap at m)))
              (λ less. omega (arith, old.within, less));
          here = old.here;
          none = λ k ge less. old.none k ge (omega (arith, less));
        }))

-- an entry of a chain that comes behind the place and leads no further than to it is the only one
only_entry : (at : ℕ → ℕ) (size n : ℕ) (links : List ℕ) (p c e b f d : ℕ) → n ≤ size → AreChains at size n links
    → IsEntry at size n e c b → p < b → get_or links e 0 ≤ p + 1
    → IsEntry at size n f c d → p < d → get_or links f 0 ≤ p + 1 → e ≡ f
only_entry at size n links p c e b f d few h ee pb el ff pd fl =
    by_either ee
    (λ e_place. by_either ff
    (λ f_place. by_either (cases_lt e f)
    (λ lt. absurd ((h.each f c d ff).none e (omega (arith, fl, pb, e_place.2)) (omega (arith, lt, f_place.2)) (sym e_place.1)))
    (λ ge. by_either (cases_eq e f) (λ is. is)
    (λ ne. absurd ((h.each e c b ee).none f (omega (arith, el, pd, f_place.2)) (omega (arith, ge, ne, e_place.2)) (sym f_place.1)))))
    (λ f_chain. absurd ((h.each f c d ff).none e (omega (arith, fl, pb, e_place.2)) (omega (arith, e_place.0, f_chain.2)) (sym e_place.1))))
    (λ e_chain. by_either ff
    (λ f_place. absurd ((h.each e c b ee).none f (omega (arith, el, pd, f_place.2)) (omega (arith, f_place.0, e_chain.2)) (sym f_place.1)))
    (λ f_chain. e_chain.0 ∙ sym f_chain.0))

-- an entry is of one chain
pub entry_same : (at : ℕ → ℕ) (size n e c b d f : ℕ) → n ≤ size → IsEntry at size n e c b → IsEntry at size n e d f → (c ≡ d) × (b ≡ f)
entry_same at size n e c b d f few x y =
    by_either x
    (λ h. by_either y (λ k. (h.1 ∙ sym k.1, h.2 ∙ sym k.2)) (λ k. absurd (omega (arith, h.0, k.0, few))))
    (λ h. by_either y (λ k. absurd (omega (arith, h.0, k.0, few))) (λ k. (omega (arith, h.0, k.0), h.2 ∙ sym k.2)))

-- an entry comes behind what it leads to
entry_past : (at : ℕ → ℕ) (size n e c b p : ℕ) → n ≤ size → p < n → IsEntry at size n e c b → p < b → e ≢ p
entry_past at size n e c b p few lt x more is =
    by_either x (λ h. absurd (omega (arith, h.2, more, is))) (λ h. absurd (omega (arith, h.0, few, lt, is)))

-- the links once the range at p is in another chain, to which f is to lead, and e leads no more
abbrev pub relinked : List ℕ → ℕ → ℕ → ℕ → List ℕ
relinked links e p f = set (set (set links e (get_or links p 0)) p (get_or (set links e (get_or links p 0)) f 0)) f (p + 1)

pub moved : (at new : ℕ → ℕ) (size n : ℕ) (links : List ℕ) (p e b f d : ℕ) → n ≤ size → p < n → ((k : ℕ) → k ≢ p → new k ≡ at k) → new p < size → new p ≢ at p
    → AreChains at size n links → IsEntry at size n e (at p) b → get_or links e 0 ≡ p + 1 → IsEntry at size n f (new p) d → p < d → get_or links f 0 ≤ p + 1
    → AreChains new size n (relinked links e p f)
moved at new size n links p e b f d few pn same own change h ee leads ff pd fl = record {
  long = length-set (set (set links e (get_or links p 0)) p (get_or (set links e (get_or links p 0)) f 0)) f (p + 1) ∙ length-set (set links e (get_or links p 0)) p (get_or (set links e (get_or links p 0)) f 0) ∙ length-set links e (get_or links p 0) ∙ h.long;
  each = λ x c y entry. by_either (cases_eq x p)
      (λ is. by_either entry
      (λ here. let chain : c ≡ new p = here.1 ∙ ap new is in
      let bound : y ≡ p = here.2 ∙ is in
      rw (chain, bound, is, now_p) at_p)
      (λ there. absurd (omega (arith, there.0, is, few, pn))))
      (λ ne. let old : IsEntry at size n x c y = by_either entry
      (λ here. inl (here.0, here.1 ∙ same x ne, here.2)) (λ there. inr there) in
      by_either (cases_eq x e)
      (λ is. let one = entry_same at size n e c y (at p) b few (rw is at old) ee in
      rw (one.0, one.1, is, now_e) at_e)
      (λ not_e. by_either (cases_eq x f)
      (λ is. let one = entry_same at size n f c y (new p) d few (rw is at old) ff in
      rw (one.0, one.1, is, now_f) at_f)
      (λ not_f. rw (now_past x ne not_e not_f) (at_past x c y old not_e not_f))));
}
  where
    pb : p < b
    pb = let w = (h.each e (at p) b ee).within in omega (arith, w, leads)

    e_p : e ≢ p
    e_p = entry_past at size n e (at p) b p few pn ee pb

    f_p : f ≢ p
    f_p = entry_past at size n f (new p) d p few pn ff pd

    e_f : e ≢ f
    e_f is = change ((entry_same at size n f (new p) d (at p) b few ff (rw is at ee)).0)

    below : (x c y : ℕ) → IsEntry at size n x c y → x < length links
    below x c y entry = by_either entry (λ here. omega (arith, here.0, h.long, few)) (λ there. omega (arith, there.0, there.1, h.long))

    e_in : e < length links
    e_in = below e (at p) b ee

    f_in : f < length links
    f_in = below f (new p) d ff

    one : List ℕ
    one = set links e (get_or links p 0)

    two : List ℕ
    two = set one p (get_or one f 0)

    long_one : length one ≡ length links
    long_one = length-set links e (get_or links p 0)

    long_two : length two ≡ length links
    long_two = length-set one p (get_or one f 0) ∙ long_one

    now_f : get_or (relinked links e p f) f 0 ≡ p + 1
    now_f = get_or-set_same two f (p + 1) 0 (rw long_two f_in)

    now_p : get_or (relinked links e p f) p 0 ≡ get_or links f 0
    now_p = get_or-set_other two f p (p + 1) 0 (λ is. f_p (sym is)) ∙ get_or-set_same one p (get_or one f 0) 0 (rw long_one (omega (arith, h.long, few, pn))) ∙ get_or-set_other links e f (get_or links p 0) 0 (λ is. e_f (sym is))

    now_e : get_or (relinked links e p f) e 0 ≡ get_or links p 0
    now_e = get_or-set_other two f e (p + 1) 0 e_f ∙ get_or-set_other one p e (get_or one f 0) 0 e_p ∙ get_or-set_same links e (get_or links p 0) 0 e_in

    now_past : (x : ℕ) → x ≢ p → x ≢ e → x ≢ f → get_or (relinked links e p f) x 0 ≡ get_or links x 0
    now_past x not_p not_e not_f = get_or-set_other two f x (p + 1) 0 not_f ∙ get_or-set_other one p x (get_or one f 0) 0 not_p ∙ get_or-set_other links e x (get_or links p 0) 0 not_e

    last_e : IsLast at (at p) b (get_or links e 0)
    last_e = h.each e (at p) b ee

    last_f : IsLast at (new p) d (get_or links f 0)
    last_f = h.each f (new p) d ff

    last_p : IsLast at (at p) p (get_or links p 0)
    last_p = h.each p (at p) p (inl (pn, refl, refl))

    f_low : get_or links f 0 ≤ p
    f_low = by_either (cases_eq (get_or links f 0) (p + 1))
        (λ is. let m : get_or links f 0 - 1 ≡ p = omega (arith, is) in absurd (change (sym (last_f.here (omega (arith, is))) ∙ ap at m)))
        (λ ne. omega (arith, fl, ne))

    at_p : IsLast new (new p) p (get_or links f 0)
    at_p = record {
      within = f_low;
      here = λ pos. same (get_or links f 0 - 1) (omega (arith, f_low, pos)) ∙ last_f.here pos;
      none = λ k ge lt is. last_f.none k ge (omega (arith, lt, pd)) (sym (same k (omega (arith, lt))) ∙ is);
    }

    at_e : IsLast new (at p) b (get_or links p 0)
    at_e = record {
      within = omega (arith, last_p.within, pb);
      here = λ pos. same (get_or links p 0 - 1) (omega (arith, last_p.within, pos)) ∙ last_p.here pos;
      none = λ k ge lt is. by_either (cases_eq k p)
          (λ k_p. change (sym (ap new k_p) ∙ is))
          (λ ne. let old = sym (same k ne) ∙ is in
          by_either (cases_lt k p) (λ less. last_p.none k ge less old) (λ more. last_e.none k (omega (arith, leads, more, ne)) lt old));
    }

    at_f : IsLast new (new p) d (p + 1)
    at_f = record {
      within = omega (arith, pd);
      here = λ pos. let m : p + 1 - 1 ≡ p = omega arith in ap new m;
      none = λ k ge lt is. last_f.none k (omega (arith, fl, ge)) lt (sym (same k (omega (arith, ge))) ∙ is);
    }

    at_past : (x c y : ℕ) → IsEntry at size n x c y → x ≢ e → x ≢ f → IsLast new c y (get_or links x 0)
    at_past x c y entry not_e not_f =
        let old : IsLast at c y (get_or links x 0) = h.each x c y entry in
        record {
          within = old.within;
          here = λ pos. by_either (cases_eq (get_or links x 0 - 1) p)
              (λ is. let chain : c ≡ at p = sym (old.here pos) ∙ ap at is in
              let up : p < y = omega (arith, old.within, pos, is) in
              let low : get_or links x 0 ≤ p + 1 = omega (arith, is, pos) in
              absurd (not_e (only_entry at size n links p (at p) x y e b few h (rw chain at entry) up low ee pb (omega (arith, leads)))))
              (λ ne. same (get_or links x 0 - 1) ne ∙ old.here pos);
          none = λ k ge lt is. by_either (cases_eq k p)
              (λ k_p. let chain : c ≡ new p = sym is ∙ ap new k_p in
              not_f (only_entry at size n links p (new p) x y f d few h (rw chain at entry) (omega (arith, k_p, lt)) (omega (arith, k_p, ge)) ff pd fl))
              (λ ne. old.none k ge lt (sym (same k ne) ∙ is));
        }

-- the next entry of a chain
pub entry_bound : (at : ℕ → ℕ) (size n e c b : ℕ) → IsEntry at size n e c b → b ≤ n
entry_bound at size n e c b entry = by_either entry (λ here. omega (arith, here.0, here.2)) (λ there. omega (arith, there.2))

pub next_entry : (at : ℕ → ℕ) (size n : ℕ) (links : List ℕ) (e c b : ℕ) → AreChains at size n links → IsEntry at size n e c b → 0 < get_or links e 0
    → IsEntry at size n (get_or links e 0 - 1) c (get_or links e 0 - 1)
next_entry at size n links e c b h entry pos =
    let last : IsLast at c b (get_or links e 0) = h.each e c b entry in
    inl (omega (arith, last.within, entry_bound at size n e c b entry, pos), sym (last.here pos), refl)

pub link_below : (at : ℕ → ℕ) (size n : ℕ) (links : List ℕ) (e c b : ℕ) → AreChains at size n links → IsEntry at size n e c b → get_or links e 0 ≤ b
link_below at size n links e c b h entry = (h.each e c b entry).within

-- what a range begins with says its chain
pub none_between : (cells : List Frames) (n : ℕ) (links : List ℕ) (lo e b : ℕ) → AreChains (chain_at cells) (length cells) n links
    → IsEntry (chain_at cells) (length cells) n e (chain_of (length cells - 1) lo) b
    → ((k : ℕ) → b ≤ k → k < n → (range_at cells k).lo ≢ lo)
    → (k : ℕ) → get_or links e 0 ≤ k → k < n → (range_at cells k).lo ≢ lo
none_between cells n links lo e b h entry above k ge lt =
    by_either (cases_lt k b)
    (λ less is. (h.each e (chain_of (length cells - 1) lo) b entry).none k ge less (ap (λ l. chain_of (length cells - 1) l) is))
    (λ more. above k more lt)

-- The range that an entry leads to goes, and the last one takes its place.
put_there : (cells : List Frames) (p last : ℕ) → p < length cells → (range_at (set cells p (range_at cells last)) p) ≡ range_at cells last
put_there cells p last lt = get_or-set_same cells p (range_at cells last) (record { lo = 0; len = 0 }) lt

pub chains_past : (cells : List Frames) (p last : ℕ) (k : ℕ) → k ≢ p → chain_at (set cells p (range_at cells last)) k ≡ chain_at cells k
chains_past cells p last k ne =
    let long = length-set cells p (range_at cells last) in
    let other = get_or-set_other cells p k (range_at cells last) (record { lo = 0; len = 0 }) ne in
    rw (long, other) refl

pub chain_at-set_same : (cells : List Frames) (p last : ℕ) → p < length cells → chain_at (set cells p (range_at cells last)) p ≡ chain_at cells last
chain_at-set_same cells p last lt =
    let long = length-set cells p (range_at cells last) in
    let same = put_there cells p last lt in
    rw (long, same) refl

-- where it leads, and that it leads there
pub leads_below : (at : ℕ → ℕ) (size n : ℕ) (links : List ℕ) (e c b : ℕ) → AreChains at size n links → IsEntry at size n e c b → 0 < get_or links e 0
    → (get_or links e 0 - 1 < n) × (at (get_or links e 0 - 1) ≡ c)
leads_below at size n links e c b h entry pos =
    let last : IsLast at c b (get_or links e 0) = h.each e c b entry in
    (omega (arith, last.within, entry_bound at size n e c b entry, pos), last.here pos)

-- the entry of a place that isn't of the last one's chain, once that one is out of its chain
kept_entry : (at : ℕ → ℕ) (size n e c b : ℕ) → c ≢ at n → IsEntry at size (n + 1) e c b → (f : ℕ) × IsEntry at size n e c f
kept_entry at size n e c b ne entry = by_either entry
    (λ here. (b, inl (by_either (cases_eq e n) (λ is. absurd (ne (here.1 ∙ ap at is))) (λ other. omega (arith, here.0, other)), here.1, here.2)))
    (λ there. (n, inr (there.0, there.1, refl)))

pub removed_same : (cells : List Frames) (n : ℕ) (links : List ℕ) (p : ℕ) → n < length cells → chain_at cells n < length cells → p < length cells → chain_at cells n ≡ chain_at cells p
    → AreChains (chain_at cells) (length cells) (n + 1) links
    → AreChains (chain_at (set cells p (range_at cells n))) (length cells) n (set links (length cells + chain_at cells n) (get_or links n 0))
removed_same cells n links p lt own within same h =
    chains_same (chain_at cells) (chain_at (set cells p (range_at cells n))) (length cells) n (set links (length cells + chain_at cells n) (get_or links n 0))
    (λ k less. by_either (cases_eq k p) (λ is. rw is (chain_at-set_same cells p n within ∙ same)) (λ ne. chains_past cells p n k ne))
    (unlinked (chain_at cells) (length cells) n links lt own h)

pub removed_other : (cells : List Frames) (n : ℕ) (links : List ℕ) (e c b f d : ℕ) → n < length cells → chain_at cells n < length cells
    → AreChains (chain_at cells) (length cells) (n + 1) links → IsEntry (chain_at cells) (length cells) (n + 1) e c b → 0 < get_or links e 0 → chain_at cells n ≢ chain_at cells (get_or links e 0 - 1)
    → IsEntry (chain_at cells) (length cells) n f (chain_at cells n) d → get_or links e 0 - 1 < d → get_or (set links (length cells + chain_at cells n) (get_or links n 0)) f 0 ≤ get_or links e 0 - 1 + 1
    → AreChains (chain_at (set cells (get_or links e 0 - 1) (range_at cells n))) (length cells) n
    (relinked (set links (length cells + chain_at cells n) (get_or links n 0)) e (get_or links e 0 - 1) f)
removed_other cells n links e c b f d lt own h entry pos ne ff pd fl =
    let at = chain_at cells in
    let size = length cells in
    let p = get_or links e 0 - 1 in
    let new = chain_at (set cells p (range_at cells n)) in
    let one = set links (size + at n) (get_or links n 0) in
    let leads = leads_below at size (n + 1) links e c b h entry pos in
    let chain : at p ≡ c = leads.1 in
    let other : c ≢ at n = λ is. ne (sym is ∙ sym chain) in
    let below : p < n = by_either (cases_eq p n) (λ is. absurd (ne (sym (ap at is)))) (λ not. omega (arith, leads.0, not)) in
    let within : p < size = omega (arith, below, lt) in
    let kept = kept_entry at size n e c b other entry in
    let past : e ≢ size + at n = λ is. by_either kept.1 (λ here. omega (arith, here.0, is, lt)) (λ there. other (omega (arith, there.0, is))) in
    let link : get_or one e 0 ≡ p + 1 = get_or-set_other links (size + at n) e (get_or links n 0) 0 past ∙ omega (arith, pos) in
    let here : new p ≡ at n = chain_at-set_same cells p n within in
    moved at new size n one p e kept.0 f d (omega (arith, lt)) below (λ k k_p. chains_past cells p n k k_p) (rw here own) (λ is. ne (sym here ∙ is))
    (unlinked at size n links lt own h) (subst (λ x. IsEntry at size n e x kept.0) (sym chain) kept.1) link (subst (λ x. IsEntry at size n f x d) (sym here) ff) pd fl

-- the chains stay, where a range comes behind those that are linked
pub linked_past : (cells : List Frames) (n : ℕ) (r : Frames) (links : List ℕ) → AreChains (chain_at cells) (length cells) n links
    → AreChains (chain_at (set cells n r)) (length (set cells n r)) n links
linked_past cells n r links h =
    let long = length-set cells n r in
    rw long (chains_same (chain_at cells) (chain_at (set cells n r)) (length cells) n links
    (λ k lt. rw (long, get_or-set_other cells n k r (record { lo = 0; len = 0 }) (omega (arith, lt))) refl) h)

-- the entry that leads to the last range is that of its chain
pub removed_last : (at : ℕ → ℕ) (n size : ℕ) (links : List ℕ) (e c b : ℕ) → n < size → AreChains at size (n + 1) links → IsEntry at size (n + 1) e c b → 0 < get_or links e 0 → get_or links e 0 - 1 ≡ n
    → AreChains at size n (set links e (get_or links n 0))
removed_last at n size links e c b lt h entry pos is = by_either entry
    (λ here. let low = (h.each e c b entry).within in absurd (omega (arith, here.0, here.2, low, pos, is)))
    (λ there. let chain : at n ≡ c = ap at (sym is) ∙ (h.each e c b entry).here pos in
    let own : at n < size = rw chain there.1 in
    let same : e ≡ size + at n = there.0 ∙ ap (λ x. size + x) (sym chain) in
    rw same (unlinked at size n links lt own h))
