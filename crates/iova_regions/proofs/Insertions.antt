-- A range joined with the windows that it meets, in their place.
use Rattle.std.proofs.Common.{◌≡◌, ℕ, zero, suc, ◌+◌, ◌<◌, ◌≤◌, ◌⊎◌, inl, inr, Bool, true, false, ◌||◌, cond, max, List, [], ◌∷◌, ◌++◌, length, take, get_or, filter, fold, refl, sym, ap, ◌∙◌, subst, arith, length-append}
use Rattle.std.proofs.lemmas.Bool.{cases_lt, cond-true, cond-false, lt-ltb, le-ltb, le-leb, lt-leb, leb-true, ltb-true, and_parts, and_from, and_left, and_right, or_cases, or_left, or_right}
use Rattle.std.proofs.lemmas.List.Folds.{list_any-append}
use Rattle.std.proofs.lemmas.List.Elements.{filter_more}
use Rattle.std.proofs.lemmas.List.Sums.{fold-append}
use lib.Dec.{ltb, leb}
use Rattle.iova_range.specs.Frames.{Frames, covers, meets, join}
use Rattle.iova_regions.specs.Windows.{RiseFrom, lies_below, union, windows_with, is_covered}

same_bool : (x y : Bool) → (x ≡ true → y ≡ true) → (y ≡ true → x ≡ true) → x ≡ y
same_bool true y f g = sym (f refl)
same_bool false true f g = g refl
same_bool false false f g = refl

-- Where a window lies

pub record IsLower (w r : Frames) : Type 0 where
  pub lower : lies_below w r ≡ true
  pub apart : meets r w ≡ false
  pub other : lies_below r w ≡ false
  pub ends : w.lo + w.len ≤ r.lo

pub record IsTouching (w r : Frames) : Type 0 where
  pub lower : lies_below w r ≡ false
  pub touches : meets r w ≡ true
  pub other : lies_below r w ≡ false
  pub begins : w.lo < r.lo + r.len
  pub ends : r.lo < w.lo + w.len

pub record IsHigher (w r : Frames) : Type 0 where
  pub lower : lies_below w r ≡ false
  pub apart : meets r w ≡ false
  pub higher : lies_below r w ≡ true
  pub begins : r.lo + r.len ≤ w.lo

higher : (w r : Frames) → 1 ≤ w.len → 1 ≤ r.len → r.lo + r.len ≤ w.lo → IsHigher w r
higher w r some also le = record {
  lower = lt-leb (w.lo + w.len) r.lo (omega arith);
  apart = and_right (ltb r.lo (w.lo + w.len)) (ltb w.lo (r.lo + r.len)) (le-ltb w.lo (r.lo + r.len) le);
  higher = le-leb (r.lo + r.len) w.lo le;
  begins = le;
}

side : (w r : Frames) → 1 ≤ w.len → 1 ≤ r.len → IsLower w r ⊎ (IsTouching w r ⊎ IsHigher w r)
side w r some also = split (cases_lt r.lo (w.lo + w.len)) (cases_lt w.lo (r.lo + r.len))
  where
    split : (r.lo < w.lo + w.len) ⊎ (w.lo + w.len ≤ r.lo) → (w.lo < r.lo + r.len) ⊎ (r.lo + r.len ≤ w.lo) → IsLower w r ⊎ (IsTouching w r ⊎ IsHigher w r)
    split (inr le) at = inl (record {
      lower = le-leb (w.lo + w.len) r.lo le;
      apart = and_left (ltb r.lo (w.lo + w.len)) (ltb w.lo (r.lo + r.len)) (le-ltb r.lo (w.lo + w.len) le);
      other = lt-leb (r.lo + r.len) w.lo (omega arith);
      ends = le;
    })
    split (inl lt) (inl also_lt) = inr (inl (record {
      lower = lt-leb (w.lo + w.len) r.lo lt;
      touches = and_from (ltb r.lo (w.lo + w.len)) (ltb w.lo (r.lo + r.len)) (lt-ltb r.lo (w.lo + w.len) lt) (lt-ltb w.lo (r.lo + r.len) also_lt);
      other = lt-leb (r.lo + r.len) w.lo also_lt;
      begins = also_lt;
      ends = lt;
    }))
    split (inl lt) (inr le) = inr (inr (higher w r some also le))

-- Filters

keep : (p : Frames → Bool) (w : Frames) (ws : List Frames) → p w ≡ true → filter p (w ∷ ws) ≡ w ∷ filter p ws
keep p w ws is = cond-true (p w) (w ∷ filter p ws) (filter p ws) is

leave : (p : Frames → Bool) (w : Frames) (ws : List Frames) → p w ≡ false → filter p (w ∷ ws) ≡ filter p ws
leave p w ws is = cond-false (p w) (w ∷ filter p ws) (filter p ws) is

abbrev lowers_of : Frames → List Frames → List Frames
lowers_of r ws = filter (λ (w : Frames). lies_below w r) ws

abbrev highers_of : Frames → List Frames → List Frames
highers_of r ws = filter (λ (w : Frames). lies_below r w) ws

parts_are : (a : Frames) (b c m n h k : List Frames) → b ≡ c → m ≡ n → h ≡ k → b ++ fold join a m ∷ h ≡ c ++ fold join a n ∷ k
parts_are a b c m n h k e f g = cc

-- The windows still rise

RiseFrom-lower : (low end : ℕ) (ws : List Frames) → low ≤ end → RiseFrom end ws → RiseFrom low ws
RiseFrom-lower low end [] le rise = tt
RiseFrom-lower low end (w ∷ ws) le rise = (omega (arith, rise.0), rise.1, rise.2)

-- windows that begin behind the range are all above it
all_higher : (r : Frames) (end : ℕ) (ws : List Frames) → 1 ≤ r.len → r.lo + r.len ≤ end → RiseFrom end ws
    → (lowers_of r ws ≡ []) × (filter (meets r) ws ≡ []) × (highers_of r ws ≡ ws)
all_higher r end [] some le rise = (refl, refl, refl)
all_higher r end (w ∷ ws) some le rise =
    let is = higher w r rise.1 some (omega (arith, rise.0)) in
    let rest = all_higher r (w.lo + w.len) ws some (omega (arith, rise.0)) rise.2 in (
      leave (λ (x : Frames). lies_below x r) w ws is.lower ∙ rest.0,
      leave (meets r) w ws is.apart ∙ rest.1,
      keep (λ (x : Frames). lies_below r x) w ws is.higher ∙ ap (λ (x : List Frames). w ∷ x) rest.2,
    )

-- the union so far takes in the windows that the range meets, up to where it ends
absorbs : (a r : Frames) (low end : ℕ) (ws : List Frames) → 1 ≤ r.len → a.lo ≤ r.lo → r.lo + r.len ≤ a.lo + a.len → r.lo < end
    → a.lo + a.len ≤ max end (r.lo + r.len) → low ≤ a.lo → RiseFrom end ws
    → (lowers_of r ws ≡ []) × RiseFrom low (fold join a (filter (meets r) ws) ∷ highers_of r ws)
absorbs a r low end [] some from to begun bound le rise = (refl, (le, omega arith, tt))
absorbs a r low end (w ∷ ws) some from to begun bound le rise =
    split (side w r rise.1 some) (λ p q s t u. absorbs (join a w) r low (w.lo + w.len) ws some p q s t u rise.2)
  where
    split : IsLower w r ⊎ (IsTouching w r ⊎ IsHigher w r)
        → ((join a w).lo ≤ r.lo → r.lo + r.len ≤ (join a w).lo + (join a w).len → r.lo < w.lo + w.len
        → (join a w).lo + (join a w).len ≤ max (w.lo + w.len) (r.lo + r.len) → low ≤ (join a w).lo
        → (lowers_of r ws ≡ []) × RiseFrom low (fold join (join a w) (filter (meets r) ws) ∷ highers_of r ws))
        → (lowers_of r (w ∷ ws) ≡ []) × RiseFrom low (fold join a (filter (meets r) (w ∷ ws)) ∷ highers_of r (w ∷ ws))
    split (inl is) rest = absurd (omega (arith, is.ends, rise.0, rise.1))
    split (inr (inl is)) rest =
        let next = rest (omega (arith, rise.0)) (omega (arith, rise.0)) is.ends (omega (arith, rise.0)) (omega (arith, rise.0)) in (
          leave (λ (x : Frames). lies_below x r) w ws is.lower ∙ next.0,
          subst (λ (x : List Frames). RiseFrom low x)
              (sym (parts_are a [] [] (filter (meets r) (w ∷ ws)) (w ∷ filter (meets r) ws) (highers_of r (w ∷ ws)) (highers_of r ws)
              refl (keep (meets r) w ws is.touches) (leave (λ (x : Frames). lies_below r x) w ws is.other)))
              next.1,
        )
    split (inr (inr is)) rest =
        let all = all_higher r w.lo (w ∷ ws) some is.begins (omega arith, rise.1, rise.2) in
        let bound_too : a.lo + a.len ≤ w.lo = omega (arith, rise.0, is.begins) in (
          all.0,
          subst (λ (x : List Frames). RiseFrom low x)
              (sym (parts_are a [] [] (filter (meets r) (w ∷ ws)) [] (highers_of r (w ∷ ws)) (w ∷ ws) refl all.1 all.2))
              (le, omega arith, (bound_too, rise.1, rise.2)),
        )

pub rises_with : (r : Frames) (low : ℕ) (ws : List Frames) → 1 ≤ r.len → low ≤ r.lo → RiseFrom low ws → RiseFrom low (windows_with r ws)
rises_with r low [] some le rise = (le, some, tt)
rises_with r low (w ∷ ws) some le rise =
    split (side w r rise.1 some) (λ ends. rises_with r (w.lo + w.len) ws some ends rise.2)
  where
    split : IsLower w r ⊎ (IsTouching w r ⊎ IsHigher w r) → (w.lo + w.len ≤ r.lo → RiseFrom (w.lo + w.len) (windows_with r ws)) → RiseFrom low (windows_with r (w ∷ ws))
    split (inl is) rest =
        let next = rest is.ends in
        subst (λ (x : List Frames). RiseFrom low x)
        (sym (parts_are r (lowers_of r (w ∷ ws)) (w ∷ lowers_of r ws) (filter (meets r) (w ∷ ws)) (filter (meets r) ws) (highers_of r (w ∷ ws)) (highers_of r ws)
        (keep (λ (x : Frames). lies_below x r) w ws is.lower) (leave (meets r) w ws is.apart) (leave (λ (x : Frames). lies_below r x) w ws is.other)))
        (rise.0, rise.1, next)
    split (inr (inl is)) rest =
        let next = absorbs (join r w) r low (w.lo + w.len) ws some (omega arith) (omega arith) is.ends (omega arith) (omega (arith, rise.0)) rise.2 in
        subst (λ (x : List Frames). RiseFrom low x)
        (sym (parts_are r (lowers_of r (w ∷ ws)) [] (filter (meets r) (w ∷ ws)) (w ∷ filter (meets r) ws) (highers_of r (w ∷ ws)) (highers_of r ws)
        (leave (λ (x : Frames). lies_below x r) w ws is.lower ∙ next.0) (keep (meets r) w ws is.touches) (leave (λ (x : Frames). lies_below r x) w ws is.other)))
        next.1
    split (inr (inr is)) rest =
        let all = all_higher r w.lo (w ∷ ws) some is.begins (omega arith, rise.1, rise.2) in
        subst (λ (x : List Frames). RiseFrom low x)
        (sym (parts_are r (lowers_of r (w ∷ ws)) [] (filter (meets r) (w ∷ ws)) [] (highers_of r (w ∷ ws)) (w ∷ ws) all.0 all.1 all.2))
        (le, some, (is.begins, rise.1, rise.2))

-- What the windows cover

covers_parts : (f : ℕ) (r : Frames) → covers f r ≡ true → (r.lo ≤ f) × (f < r.lo + r.len)
covers_parts f r is =
    let both = and_parts (leb r.lo f) (ltb f (r.lo + r.len)) is in (leb-true r.lo f both.0, ltb-true f (r.lo + r.len) both.1)

covers_from : (f : ℕ) (r : Frames) → r.lo ≤ f → f < r.lo + r.len → covers f r ≡ true
covers_from f r le lt = and_from (leb r.lo f) (ltb f (r.lo + r.len)) (le-leb r.lo f le) (lt-ltb f (r.lo + r.len) lt)

-- ranges that meet are joined to the frames of both
join_covers : (f : ℕ) (a m : Frames) → a.lo < m.lo + m.len → m.lo < a.lo + a.len → covers f (join a m) ≡ (covers f a || covers f m)
join_covers f a m lt also = same_bool (covers f (join a m)) (covers f a || covers f m) there back
  where
    there : covers f (join a m) ≡ true → (covers f a || covers f m) ≡ true
    there is = split (cases_lt f a.lo) (cases_lt f (a.lo + a.len))
      where
        split : (f < a.lo) ⊎ (a.lo ≤ f) → (f < a.lo + a.len) ⊎ (a.lo + a.len ≤ f) → (covers f a || covers f m) ≡ true
        split (inr le) (inl less) = or_left (covers f a) (covers f m) (covers_from f a le less)
        split (inl less) side_too =
            let in_join = covers_parts f (join a m) is in
            or_right (covers f a) (covers f m) (covers_from f m (omega (arith, in_join.0)) (omega arith))
        split (inr le) (inr behind) =
            let in_join = covers_parts f (join a m) is in
            or_right (covers f a) (covers f m) (covers_from f m (omega arith) (omega (arith, in_join.1)))

    back : (covers f a || covers f m) ≡ true → covers f (join a m) ≡ true
    back is = split (or_cases (covers f a) (covers f m) is)
      where
        split : (covers f a ≡ true) ⊎ (covers f m ≡ true) → covers f (join a m) ≡ true
        split (inl of_a) = let p = covers_parts f a of_a in covers_from f (join a m) (omega (arith, p.0, p.1)) (omega (arith, p.0, p.1))
        split (inr of_m) = let p = covers_parts f m of_m in covers_from f (join a m) (omega (arith, p.0, p.1)) (omega (arith, p.0, p.1))

or_none : (x : Bool) → x ≡ (x || false)
or_none true = refl
or_none false = refl

or_moves : (x y z : Bool) → ((x || y) || z) ≡ (x || (y || z))
or_moves true y z = refl
or_moves false y z = refl

-- the union of a range that has the other's frames, and of what the other meets
union_covers : (f : ℕ) (a r : Frames) (ws : List Frames) → 1 ≤ r.len → a.lo ≤ r.lo → r.lo + r.len ≤ a.lo + a.len
    → covers f (fold join a (filter (meets r) ws)) ≡ (covers f a || is_covered f (filter (meets r) ws))
union_covers f a r [] some from to = or_none (covers f a)
union_covers f a r (w ∷ ws) some from to =
    split (meets r w) refl (λ p q. union_covers f (join a w) r ws some p q) (union_covers f a r ws some from to)
  where
    split : (b : Bool) → meets r w ≡ b
        → ((join a w).lo ≤ r.lo → r.lo + r.len ≤ (join a w).lo + (join a w).len
        → covers f (fold join (join a w) (filter (meets r) ws)) ≡ (covers f (join a w) || is_covered f (filter (meets r) ws)))
        → covers f (fold join a (filter (meets r) ws)) ≡ (covers f a || is_covered f (filter (meets r) ws))
        → covers f (fold join a (filter (meets r) (w ∷ ws))) ≡ (covers f a || is_covered f (filter (meets r) (w ∷ ws)))
    split true is with_it without =
        let both = and_parts (ltb r.lo (w.lo + w.len)) (ltb w.lo (r.lo + r.len)) is in
        let begun : r.lo < w.lo + w.len = ltb-true r.lo (w.lo + w.len) both.0 in
        let begins : w.lo < r.lo + r.len = ltb-true w.lo (r.lo + r.len) both.1 in
        let next = with_it (omega arith) (omega arith) in
        let here = join_covers f a w (omega arith) (omega arith) in
        subst (λ (x : List Frames). covers f (fold join a x) ≡ (covers f a || is_covered f x)) (sym (keep (meets r) w ws is))
        (next ∙ (ap (λ (x : Bool). x || is_covered f (filter (meets r) ws)) here ∙ or_moves (covers f a) (covers f w) (is_covered f (filter (meets r) ws))))
    split false is with_it without =
        subst (λ (x : List Frames). covers f (fold join a x) ≡ (covers f a || is_covered f x)) (sym (leave (meets r) w ws is))
        without

first_moves : (x b m h : Bool) → (x || (b || (m || h))) ≡ ((x || b) || (m || h))
first_moves true b m h = refl
first_moves false b m h = refl

middle_moves : (x b m h : Bool) → (x || (b || (m || h))) ≡ (b || ((x || m) || h))
middle_moves true true m h = refl
middle_moves true false m h = refl
middle_moves false b m h = refl

last_moves : (x b m h : Bool) → (x || (b || (m || h))) ≡ (b || (m || (x || h)))
last_moves true true m h = refl
last_moves true false true h = refl
last_moves true false false h = refl
last_moves false b m h = refl

-- each window is below the range, meets it or is above it
split_covers : (f : ℕ) (r : Frames) (end : ℕ) (ws : List Frames) → 1 ≤ r.len → RiseFrom end ws
    → is_covered f ws ≡ (is_covered f (lowers_of r ws) || (is_covered f (filter (meets r) ws) || is_covered f (highers_of r ws)))
split_covers f r end [] some rise = refl
split_covers f r end (w ∷ ws) some rise =
    split (side w r rise.1 some) (ap (λ (x : Bool). covers f w || x) (split_covers f r (w.lo + w.len) ws some rise.2))
  where
    parts : (b c m n h k : List Frames) → b ≡ c → m ≡ n → h ≡ k → (is_covered f c || (is_covered f n || is_covered f k)) ≡ (is_covered f b || (is_covered f m || is_covered f h))
    parts b c m n h k e g i = cc

    split : IsLower w r ⊎ (IsTouching w r ⊎ IsHigher w r)
        → (covers f w || is_covered f ws) ≡ (covers f w || (is_covered f (lowers_of r ws) || (is_covered f (filter (meets r) ws) || is_covered f (highers_of r ws))))
        → is_covered f (w ∷ ws) ≡ (is_covered f (lowers_of r (w ∷ ws)) || (is_covered f (filter (meets r) (w ∷ ws)) || is_covered f (highers_of r (w ∷ ws))))
    split (inl is) tails =
        tails ∙ (first_moves (covers f w) (is_covered f (lowers_of r ws)) (is_covered f (filter (meets r) ws)) (is_covered f (highers_of r ws))
        ∙ parts (lowers_of r (w ∷ ws)) (w ∷ lowers_of r ws) (filter (meets r) (w ∷ ws)) (filter (meets r) ws) (highers_of r (w ∷ ws)) (highers_of r ws)
        (keep (λ (x : Frames). lies_below x r) w ws is.lower) (leave (meets r) w ws is.apart) (leave (λ (x : Frames). lies_below r x) w ws is.other))
    split (inr (inl is)) tails =
        tails ∙ (middle_moves (covers f w) (is_covered f (lowers_of r ws)) (is_covered f (filter (meets r) ws)) (is_covered f (highers_of r ws))
        ∙ parts (lowers_of r (w ∷ ws)) (lowers_of r ws) (filter (meets r) (w ∷ ws)) (w ∷ filter (meets r) ws) (highers_of r (w ∷ ws)) (highers_of r ws)
        (leave (λ (x : Frames). lies_below x r) w ws is.lower) (keep (meets r) w ws is.touches) (leave (λ (x : Frames). lies_below r x) w ws is.other))
    split (inr (inr is)) tails =
        tails ∙ (last_moves (covers f w) (is_covered f (lowers_of r ws)) (is_covered f (filter (meets r) ws)) (is_covered f (highers_of r ws))
        ∙ parts (lowers_of r (w ∷ ws)) (lowers_of r ws) (filter (meets r) (w ∷ ws)) (filter (meets r) ws) (highers_of r (w ∷ ws)) (w ∷ highers_of r ws)
        (leave (λ (x : Frames). lies_below x r) w ws is.lower) (leave (meets r) w ws is.apart) (keep (λ (x : Frames). lies_below r x) w ws is.higher))

union_moves : (b u m h : Bool) → (b || ((u || m) || h)) ≡ ((b || (m || h)) || u)
union_moves true u m h = refl
union_moves false true true h = refl
union_moves false true false true = refl
union_moves false true false false = refl
union_moves false false true h = refl
union_moves false false false true = refl
union_moves false false false false = refl

pub covers_with : (f : ℕ) (r : Frames) (ws : List Frames) → 1 ≤ r.len → RiseFrom 1 ws → is_covered f (windows_with r ws) ≡ (is_covered f ws || covers f r)
covers_with f r ws some rise =
    list_any-append (covers f) (lowers_of r ws) (union r ws ∷ highers_of r ws)
    ∙ (ap (λ (x : Bool). is_covered f (lowers_of r ws) || (x || is_covered f (highers_of r ws))) (union_covers f r r ws some (omega arith) (omega arith))
    ∙ (union_moves (is_covered f (lowers_of r ws)) (covers f r) (is_covered f (filter (meets r) ws)) (is_covered f (highers_of r ws))
    ∙ ap (λ (x : Bool). x || covers f r) (sym (split_covers f r 1 ws some rise))))

pub length_with : (r : Frames) (ws : List Frames) → length (windows_with r ws) ≡ length (lowers_of r ws) + (1 + length (highers_of r ws))
length_with r ws = omega (arith, length-append (lowers_of r ws) (union r ws ∷ highers_of r ws))

-- one window more
pub union_more : (r : Frames) (ws : List Frames) (i : ℕ) (d : Frames) → i < length ws
    → fold join r (filter (meets r) (take (i + 1) ws))
    ≡ cond (meets r (get_or ws i d)) (join (fold join r (filter (meets r) (take i ws))) (get_or ws i d)) (fold join r (filter (meets r) (take i ws)))
union_more r ws i d lt =
    ap (fold join r) (filter_more (meets r) ws i d lt) ∙ split (meets r (get_or ws i d))
  where
    split : (b : Bool) → fold join r (filter (meets r) (take i ws) ++ cond b (get_or ws i d ∷ []) [])
        ≡ cond b (join (fold join r (filter (meets r) (take i ws))) (get_or ws i d)) (fold join r (filter (meets r) (take i ws)))
    split true = fold-append join r (filter (meets r) (take i ws)) (get_or ws i d ∷ [])
    split false = fold-append join r (filter (meets r) (take i ws)) []

pub window_low : (low : ℕ) (ws : List Frames) (i : ℕ) (d : Frames) → RiseFrom low ws → i < length ws → low ≤ (get_or ws i d).lo
window_low low [] i d rise lt = absurd (omega arith)
window_low low (w ∷ ws) zero d rise lt = rise.0
window_low low (w ∷ ws) (suc i) d rise lt = omega (arith, rise.0, window_low (w.lo + w.len) ws i d rise.2 (omega arith))
