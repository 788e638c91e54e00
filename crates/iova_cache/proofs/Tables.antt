-- The buckets of a table: where a range is found, and what a range more and one less make of them.
use Rattle.std.proofs.Common.{◌≡◌, ◌≢◌, ◌+◌, ◌-◌, ◌*◌, ◌<◌, ◌≤◌, ◌==◌, ◌^◌, ℕ, zero, suc, Bool, true, false, cond, List, [], ◌∷◌, ◌++◌, length, get_or, find, Option, Some, None, IfSome, IfNone, refl, sym, ap, ◌∙◌, arith, sum_by, set, replicate, take, drop, append_assoc, append-nil, length-append}
use Rattle.std.specs.Prelude.{nat_lt}
use Rattle.std.specs.Option.{option_or, is_some}
use Rattle.std.proofs.Math.Pow.{pow_mono}
use Rattle.std.proofs.lemmas.Nat.{pow-add}
use Rattle.std.proofs.lemmas.List.{take_all, take_more, drop_more, get_or-drop, get_or-take, length-take-le, length-drop, get_or-set_same, get_or-set_other, get_or_default, length-set, length-replicate, get_or-replicate}
use Rattle.std.proofs.lemmas.List.Sums.{sum_by-append, sum_by-cons, sum_by-set}
use Rattle.std.proofs.lemmas.List.Folds.{find-append}
use Rattle.std.proofs.lemmas.Bool.Decides.{nat_tests}
use Rattle.iova_range.specs.Frames.{Frames}
use Rattle.iova_model.specs.Clients.{begins_at}
use Rattle.iova_cache.specs.Held.{Held, Gains, all_ranges, home_of, onward, around, all_onward, all_around, in_order, of_home, stray_at, AreStrays, IsTable}

-- Whatever ranges weigh, their order doesn't matter.

split : (weigh : Frames → ℕ) (home : ℕ → ℕ) (place : ℕ) (rs : List Frames) → sum_by weigh (onward home place rs) + sum_by weigh (around home place rs) ≡ sum_by weigh rs
split weigh home place [] = refl
split weigh home place (r ∷ rs) = step (nat_lt place (home r.lo)) (split weigh home place rs)
  where
    step : (b : Bool) → sum_by weigh (onward home place rs) + sum_by weigh (around home place rs) ≡ sum_by weigh rs → sum_by weigh (cond b (onward home place rs) (r ∷ onward home place rs)) + sum_by weigh (cond b (r ∷ around home place rs) (around home place rs)) ≡ sum_by weigh (r ∷ rs)
    step true ih = omega (arith, ih, sum_by-cons weigh r rs, sum_by-cons weigh r (around home place rs))
    step false ih = omega (arith, ih, sum_by-cons weigh r rs, sum_by-cons weigh r (onward home place rs))

split_all : (weigh : Frames → ℕ) (home : ℕ → ℕ) (place : ℕ) (bs : List (List Frames)) → sum_by weigh (all_onward home place bs) + sum_by weigh (all_around home place bs) ≡ sum_by weigh (all_ranges bs)
split_all weigh home place [] = refl
split_all weigh home place (b ∷ bs) =
    omega (arith, split weigh home place b, split_all weigh home (place + 1) bs, sum_by-append weigh b (all_ranges bs), sum_by-append weigh (onward home place b) (all_onward home (place + 1) bs), sum_by-append weigh (around home place b) (all_around home (place + 1) bs))

pub sum_in_order : (weigh : Frames → ℕ) (home : ℕ → ℕ) (bs : List (List Frames)) → sum_by weigh (in_order home bs) ≡ sum_by weigh (all_ranges bs)
sum_in_order weigh home bs = sum_by-append weigh (all_onward home 0 bs) (all_around home 0 bs) ∙ split_all weigh home 0 bs

-- as many as each weighs one
pub ones : (rs : List Frames) → sum_by (λ r. 1) rs ≡ length rs
ones [] = refl
ones (r ∷ rs) = omega (arith, ones rs, sum_by-cons (λ (r : Frames). 1) r rs)

pub length_in_order : (home : ℕ → ℕ) (bs : List (List Frames)) → length (in_order home bs) ≡ length (all_ranges bs)
length_in_order home bs = sym (ones (in_order home bs)) ∙ (sum_in_order (λ r. 1) home bs ∙ ones (all_ranges bs))

pub length_same : (rs ts : List Frames) → ((weigh : Frames → ℕ) → sum_by weigh ts ≡ sum_by weigh rs) → length ts ≡ length rs
length_same rs ts same = sym (ones ts) ∙ (same (λ r. 1) ∙ ones rs)

pub length_gains : (r : Frames) (rs ts : List Frames) → Gains r rs ts → length ts ≡ 1 + length rs
length_gains r rs ts g = sym (ones ts) ∙ (g (λ r. 1) ∙ ap (λ n. 1 + n) (ones rs))

-- Where a range is looked for.

or_none : (o : Option Frames) → option_or o None ≡ o
or_none None = refl
or_none (Some r) = refl

found_onward : (home : ℕ → ℕ) (lo place : ℕ) (rs : List Frames) → home lo ≤ place → find (begins_at lo) (onward home place rs) ≡ find (begins_at lo) rs
found_onward home lo place [] le = refl
found_onward home lo place (r ∷ rs) le = step (nat_lt place (home r.lo)) refl (r.lo == lo) refl (found_onward home lo place rs le)
  where
    step : (b : Bool) → nat_lt place (home r.lo) ≡ b → (c : Bool) → (r.lo == lo) ≡ c → find (begins_at lo) (onward home place rs) ≡ find (begins_at lo) rs
        → find (begins_at lo) (cond b (onward home place rs) (r ∷ onward home place rs)) ≡ cond c (Some r) (find (begins_at lo) rs)
    step true far true is ih =
        let same : home r.lo ≡ home lo = ap home (let e : r.lo ≡ lo = grind (arith, nat_tests) in e) in
        let lt : place < home r.lo = grind (arith, nat_tests) in
        absurd (omega arith)
    step true far false is ih = ih
    step false near c is ih = rw is (ap (λ o. cond c (Some r) o) ih)

none_onward : (home : ℕ → ℕ) (lo place : ℕ) (rs : List Frames) → place < home lo → find (begins_at lo) (onward home place rs) ≡ None
none_onward home lo place [] lt = refl
none_onward home lo place (r ∷ rs) lt = step (nat_lt place (home r.lo)) refl (r.lo == lo) refl (none_onward home lo place rs lt)
  where
    step : (b : Bool) → nat_lt place (home r.lo) ≡ b → (c : Bool) → (r.lo == lo) ≡ c → find (begins_at lo) (onward home place rs) ≡ None → find (begins_at lo) (cond b (onward home place rs) (r ∷ onward home place rs)) ≡ None
    step true far c is ih = ih
    step false near true is ih =
        let same : home r.lo ≡ home lo = ap home (let e : r.lo ≡ lo = grind (arith, nat_tests) in e) in
        let le : home r.lo ≤ place = grind (arith, nat_tests) in
        absurd (omega arith)
    step false near false is ih = rw is ih

found_around : (home : ℕ → ℕ) (lo place : ℕ) (rs : List Frames) → place < home lo → find (begins_at lo) (around home place rs) ≡ find (begins_at lo) rs
found_around home lo place [] lt = refl
found_around home lo place (r ∷ rs) lt = step (nat_lt place (home r.lo)) refl (r.lo == lo) refl (found_around home lo place rs lt)
  where
    step : (b : Bool) → nat_lt place (home r.lo) ≡ b → (c : Bool) → (r.lo == lo) ≡ c → find (begins_at lo) (around home place rs) ≡ find (begins_at lo) rs
        → find (begins_at lo) (cond b (r ∷ around home place rs) (around home place rs)) ≡ cond c (Some r) (find (begins_at lo) rs)
    step false near true is ih =
        let same : home r.lo ≡ home lo = ap home (let e : r.lo ≡ lo = grind (arith, nat_tests) in e) in
        let le : home r.lo ≤ place = grind (arith, nat_tests) in
        absurd (omega arith)
    step false near false is ih = ih
    step true far c is ih = rw is (ap (λ o. cond c (Some r) o) ih)

none_around : (home : ℕ → ℕ) (lo place : ℕ) (rs : List Frames) → home lo ≤ place → find (begins_at lo) (around home place rs) ≡ None
none_around home lo place [] le = refl
none_around home lo place (r ∷ rs) le = step (nat_lt place (home r.lo)) refl (r.lo == lo) refl (none_around home lo place rs le)
  where
    step : (b : Bool) → nat_lt place (home r.lo) ≡ b → (c : Bool) → (r.lo == lo) ≡ c → find (begins_at lo) (around home place rs) ≡ None → find (begins_at lo) (cond b (r ∷ around home place rs) (around home place rs)) ≡ None
    step false near c is ih = ih
    step true far true is ih =
        let same : home r.lo ≡ home lo = ap home (let e : r.lo ≡ lo = grind (arith, nat_tests) in e) in
        let lt : place < home r.lo = grind (arith, nat_tests) in
        absurd (omega arith)
    step true far false is ih = rw is ih

onward_from : (home : ℕ → ℕ) (lo place : ℕ) (bs : List (List Frames)) → home lo ≤ place → find (begins_at lo) (all_onward home place bs) ≡ find (begins_at lo) (all_ranges bs)
onward_from home lo place [] le = refl
onward_from home lo place (b ∷ bs) le =
    rw (find-append (begins_at lo) (onward home place b) (all_onward home (place + 1) bs), find-append (begins_at lo) b (all_ranges bs), found_onward home lo place b le, onward_from home lo (place + 1) bs (omega arith)) refl

around_from : (home : ℕ → ℕ) (lo place : ℕ) (bs : List (List Frames)) → home lo ≤ place → find (begins_at lo) (all_around home place bs) ≡ None
around_from home lo place [] le = refl
around_from home lo place (b ∷ bs) le =
    rw (find-append (begins_at lo) (around home place b) (all_around home (place + 1) bs), none_around home lo place b le) (around_from home lo (place + 1) bs (omega arith))

onward_all : (home : ℕ → ℕ) (lo place k : ℕ) (bs : List (List Frames)) → place + k ≡ home lo → find (begins_at lo) (all_onward home place bs) ≡ find (begins_at lo) (all_ranges (drop k bs))
onward_all home lo place zero bs at = onward_from home lo place bs (omega arith)
onward_all home lo place (suc k) [] at = refl
onward_all home lo place (suc k) (b ∷ bs) at =
    rw (find-append (begins_at lo) (onward home place b) (all_onward home (place + 1) bs), none_onward home lo place b (omega arith)) (onward_all home lo (place + 1) k bs (omega arith))

around_all : (home : ℕ → ℕ) (lo place k : ℕ) (bs : List (List Frames)) → place + k ≡ home lo → find (begins_at lo) (all_around home place bs) ≡ find (begins_at lo) (all_ranges (take k bs))
around_all home lo place zero bs at = around_from home lo place bs (omega arith)
around_all home lo place (suc k) [] at = refl
around_all home lo place (suc k) (b ∷ bs) at =
    rw (find-append (begins_at lo) (around home place b) (all_around home (place + 1) bs), find-append (begins_at lo) b (all_ranges (take k bs)), found_around home lo place b (omega arith), around_all home lo (place + 1) k bs (omega arith)) refl

-- what is looked for from a home on
abbrev pub sought : ℕ → ℕ → List (List Frames) → Option Frames
sought lo k bs = option_or (find (begins_at lo) (all_ranges (drop k bs))) (find (begins_at lo) (all_ranges (take k bs)))

pub find_in_order : (home : ℕ → ℕ) (lo k : ℕ) (bs : List (List Frames)) → k ≡ home lo → find (begins_at lo) (in_order home bs) ≡ sought lo k bs
find_in_order home lo k bs at =
    rw (find-append (begins_at lo) (all_onward home 0 bs) (all_around home 0 bs), onward_all home lo 0 k bs (omega (arith, at)), around_all home lo 0 k bs (omega (arith, at))) refl

-- The home alone, where it has no strays.

none_of_home : (home : ℕ → ℕ) (lo place : ℕ) (rs : List Frames) → place ≡ home lo → of_home home place rs ≡ 0 → find (begins_at lo) rs ≡ None
none_of_home home lo place [] at none = refl
none_of_home home lo place (r ∷ rs) at none =
    let all = sum_by-cons (λ (r : Frames). cond (home r.lo == place) 1 0) r rs in
    let here : cond {A = ℕ} (home r.lo == place) 1 0 ≡ 0 = omega (arith, all, none) in
    let rest : of_home home place rs ≡ 0 = omega (arith, all, none) in
    step (r.lo == lo) refl (home r.lo == place) refl here (none_of_home home lo place rs at rest)
  where
    step : (b : Bool) → (r.lo == lo) ≡ b → (c : Bool) → (home r.lo == place) ≡ c → cond {A = ℕ} c 1 0 ≡ 0 → find (begins_at lo) rs ≡ None → cond b (Some r) (find (begins_at lo) rs) ≡ None
    step true is true own here ih = absurd (omega arith)
    step true is false own here ih =
        let same : r.lo ≡ lo = grind (arith, nat_tests) in
        let other : home r.lo ≢ place = grind (arith, nat_tests) in
        absurd (other (ap home same ∙ sym at))
    step false is c own here ih = ih

one_of_home : (home : ℕ → ℕ) (lo place : ℕ) (rs : List Frames) → place ≡ home lo → find (begins_at lo) rs ≢ None → 1 ≤ of_home home place rs
one_of_home home lo place rs at some = step (of_home home place rs) refl
  where
    step : (n : ℕ) → of_home home place rs ≡ n → 1 ≤ n
    step zero is = absurd (some (none_of_home home lo place rs at is))
    step (suc n) is = omega arith

parts : (weigh : Frames → ℕ) (bs : List (List Frames)) (k : ℕ) → k < length bs
    → sum_by weigh (all_ranges bs) ≡ sum_by weigh (all_ranges (take k bs)) + (sum_by weigh (get_or bs k []) + sum_by weigh (all_ranges (drop (k + 1) bs)))
parts weigh [] k lt = absurd (omega arith)
parts weigh (b ∷ bs) zero lt = omega (arith, sum_by-append weigh b (all_ranges bs))
parts weigh (b ∷ bs) (suc k) lt =
    let e : suc k + 1 ≡ suc (k + 1) = omega arith in
    let all : sum_by weigh (b ++ all_ranges bs) ≡ sum_by weigh (b ++ all_ranges (take k bs)) + (sum_by weigh (get_or bs k []) + sum_by weigh (all_ranges (drop (k + 1) bs)))
    = omega (arith, parts weigh bs k (omega arith), sum_by-append weigh b (all_ranges bs), sum_by-append weigh b (all_ranges (take k bs))) in
    rw e all

pub alone : (home : ℕ → ℕ) (lo k : ℕ) (bs : List (List Frames)) (strays : List ℕ) → k ≡ home lo → k < length bs → AreStrays home bs strays → get_or strays k 0 ≡ 0
    → sought lo k bs ≡ find (begins_at lo) (get_or bs k [])
alone home lo k bs strays at lt away none =
    let weigh : Frames → ℕ = λ r. cond (home r.lo == k) 1 0 in
    let all = parts weigh bs k lt in
    let own = away k lt in
    let before : of_home home k (all_ranges (take k bs)) ≡ 0 = omega (arith, all, own, none) in
    let behind : of_home home k (all_ranges (drop (k + 1) bs)) ≡ 0 = omega (arith, all, own, none) in
    rw (drop_more bs k [] lt, find-append (begins_at lo) (get_or bs k []) (all_ranges (drop (k + 1) bs)), none_of_home home lo k (all_ranges (take k bs)) at before, none_of_home home lo k (all_ranges (drop (k + 1) bs)) at behind, or_none (find (begins_at lo) (get_or bs k [])))
    (or_none (find (begins_at lo) (get_or bs k [])))

-- what is found begins there
pub found_begins : (lo : ℕ) (rs : List Frames) (r : Frames) → find (begins_at lo) rs ≡ Some r → r.lo ≡ lo
found_begins lo [] r is = absurd (let bad : None ≡ Some r = is in cc)
found_begins lo (x ∷ rs) r is = step (x.lo == lo) refl (found_begins lo rs r) is
  where
    step : (b : Bool) → (x.lo == lo) ≡ b → (find (begins_at lo) rs ≡ Some r → r.lo ≡ lo) → cond b (Some x) (find (begins_at lo) rs) ≡ Some r → r.lo ≡ lo
    step true own ih is =
        let e : x.lo ≡ lo = grind (arith, nat_tests) in
        let same : x ≡ r = cc in
        ap (λ (r : Frames). r.lo) (sym same) ∙ e
    step false other ih is = ih is

-- A search over buckets.

pub bucket_at : (bs : List (List Frames)) (k : ℕ) (b : List Frames) → k < length bs → b ≡ get_or bs k b → get_or bs k [] ≡ b
bucket_at bs k b lt is = get_or_default bs k [] b lt ∙ sym is

-- one bucket more
joined : (xs : List (List Frames)) (b : List Frames) → all_ranges (xs ++ b ∷ []) ≡ all_ranges xs ++ b
joined [] b = append-nil b
joined (x ∷ xs) b = ap (λ l. x ++ l) (joined xs b) ∙ sym (append_assoc x (all_ranges xs) b)

pub not_some : (o : Option Frames) (b : Bool) → b ≡ is_some o → b ≡ false → o ≡ None
not_some None b is other = refl
not_some (Some r) b is other = absurd (let bad : true ≡ false = sym is ∙ other in cc)

some_or : (o p : Option Frames) → o ≢ None → option_or o p ≡ o
some_or None p some = absurd (some refl)
some_or (Some r) p some = refl

-- the first bucket that has it
pub found_first : (lo k : ℕ) (bs : List (List Frames)) → k < length bs → find (begins_at lo) (all_ranges (take k bs)) ≡ None → find (begins_at lo) (get_or bs k []) ≢ None
    → find (begins_at lo) (all_ranges bs) ≡ find (begins_at lo) (get_or bs k [])
found_first lo k [] lt before some = absurd (omega arith)
found_first lo zero (b ∷ bs) lt before some = find-append (begins_at lo) b (all_ranges bs) ∙ some_or (find (begins_at lo) b) (find (begins_at lo) (all_ranges bs)) some
found_first lo (suc k) (b ∷ bs) lt before some =
    let both = rw (find-append (begins_at lo) b (all_ranges (take k bs))) at before in
    let rest = or_both (find (begins_at lo) b) (find (begins_at lo) (all_ranges (take k bs))) both in
    rw (find-append (begins_at lo) b (all_ranges bs), rest.0) (found_first lo k bs (omega arith) rest.1 some)
  where
    or_both : (o p : Option Frames) → option_or o p ≡ None → (o ≡ None) × (p ≡ None)
    or_both None p none = (refl, none)
    or_both (Some r) p none = absurd (let bad : Some r ≡ None = none in cc)

pub none_so_far : (lo k : ℕ) (bs : List (List Frames)) → k < length bs → find (begins_at lo) (all_ranges (take k bs)) ≡ None → find (begins_at lo) (get_or bs k []) ≡ None
    → find (begins_at lo) (all_ranges (take (k + 1) bs)) ≡ None
none_so_far lo k bs lt before none =
    rw (take_more bs k [] lt, joined (take k bs) (get_or bs k []), find-append (begins_at lo) (all_ranges (take k bs)) (get_or bs k []), before) none

pub sought_at : (lo k : ℕ) (bs : List (List Frames)) → k < length bs → find (begins_at lo) (get_or bs k []) ≢ None → sought lo k bs ≡ find (begins_at lo) (get_or bs k [])
sought_at lo k bs lt some =
    rw (drop_more bs k [] lt, find-append (begins_at lo) (get_or bs k []) (all_ranges (drop (k + 1) bs)), some_or (find (begins_at lo) (get_or bs k [])) (find (begins_at lo) (all_ranges (drop (k + 1) bs))) some)
    (some_or (find (begins_at lo) (get_or bs k [])) (find (begins_at lo) (all_ranges (take k bs))) some)

-- Rooms.

pub full_more : (bs : List (List Frames)) (k : ℕ) → k < length bs → length (all_ranges (take k bs)) ≡ 7 * k → length (get_or bs k []) ≡ 7 → length (all_ranges (take (k + 1) bs)) ≡ 7 * (k + 1)
full_more bs k lt before full =
    rw (take_more bs k [] lt, joined (take k bs) (get_or bs k []), length-append (all_ranges (take k bs)) (get_or bs k [])) (omega (arith, before, full))

pub all_parts : (k : ℕ) (bs : List (List Frames)) → length (all_ranges bs) ≡ length (all_ranges (take k bs)) + length (all_ranges (drop k bs))
all_parts zero bs = omega arith
all_parts (suc k) [] = refl
all_parts (suc k) (b ∷ bs) = rw (length-append b (all_ranges bs), length-append b (all_ranges (take k bs))) (omega (arith, all_parts k bs))

-- One range more or less in a bucket.

pub sum_by-all : (weigh : Frames → ℕ) (bs : List (List Frames)) → sum_by weigh (all_ranges bs) ≡ sum_by (λ (b : List Frames). sum_by weigh b) bs
sum_by-all weigh [] = refl
sum_by-all weigh (b ∷ bs) =
    let parts = sum_by-append weigh b (all_ranges bs) in
    let as_buckets = sum_by-cons (λ (b : List Frames). sum_by weigh b) b bs in
    omega (arith, sum_by-all weigh bs)

pub gains_in : (r : Frames) (bs : List (List Frames)) (k : ℕ) (b b' : List Frames) → k < length bs → b ≡ get_or bs k b → Gains r b b' → Gains r (all_ranges bs) (all_ranges (set bs k b'))
gains_in r bs k b b' lt is g weigh =
    let f : List Frames → ℕ = λ b. sum_by weigh b in
    let all : sum_by f (set bs k b') + sum_by weigh (get_or bs k b) ≡ sum_by f bs + sum_by weigh b' = sum_by-set f bs k b' b lt in
    let here : sum_by weigh b ≡ sum_by weigh (get_or bs k b) = ap f is in
    let more : sum_by weigh b' ≡ weigh r + sum_by weigh b = g weigh in
    omega (arith, sum_by-all weigh bs, sum_by-all weigh (set bs k b'))

pub gains_out : (r : Frames) (bs : List (List Frames)) (k : ℕ) (b b' : List Frames) → k < length bs → b ≡ get_or bs k b → Gains r b' b → Gains r (all_ranges (set bs k b')) (all_ranges bs)
gains_out r bs k b b' lt is g weigh =
    let f : List Frames → ℕ = λ b. sum_by weigh b in
    let all : sum_by f (set bs k b') + sum_by weigh (get_or bs k b) ≡ sum_by f bs + sum_by weigh b' = sum_by-set f bs k b' b lt in
    let here : sum_by weigh b ≡ sum_by weigh (get_or bs k b) = ap f is in
    let less : sum_by weigh b ≡ weigh r + sum_by weigh b' = g weigh in
    omega (arith, sum_by-all weigh bs, sum_by-all weigh (set bs k b'))

pub gains_pushed : (r : Frames) (b : List Frames) → Gains r b (b ++ r ∷ [])
gains_pushed r b weigh =
    let all = sum_by-append weigh b (r ∷ []) in
    let one = sum_by-cons weigh r [] in
    omega arith

pub gains_seen : (r : Frames) (home : ℕ → ℕ) (bs cs : List (List Frames)) → Gains r (all_ranges bs) (all_ranges cs) → Gains r (in_order home bs) (in_order home cs)
gains_seen r home bs cs g weigh = omega (arith, g weigh, sum_in_order weigh home bs, sum_in_order weigh home cs)

pub stray_none : (h p : ℕ) → stray_at h h p ≡ 0
stray_none h p = let own : (h == h) ≡ true = grind (arith, nat_tests) in rw own refl

stray_own : (h k : ℕ) → stray_at h k k ≡ 0
stray_own h k = step (k == h)
  where
    step : (b : Bool) → cond {A = ℕ} b 0 (cond b 1 0) ≡ 0
    step true = refl
    step false = refl

stray_is : (home : ℕ → ℕ) (h k p : ℕ) (r : Frames) → h ≡ home r.lo → p ≢ k → stray_at h k p ≡ cond {A = ℕ} (home r.lo == p) 1 0
stray_is home h k p r at ne = step (k == h) refl (p == h) refl (home r.lo == p) refl
  where
    step : (a : Bool) → (k == h) ≡ a → (b : Bool) → (p == h) ≡ b → (c : Bool) → (home r.lo == p) ≡ c → cond {A = ℕ} a 0 (cond b 1 0) ≡ cond c 1 0
    step true is b at_p true own =
        let e : home r.lo ≡ p = grind (arith, nat_tests) in
        let f : k ≡ h = grind (arith, nat_tests) in
        absurd (ne (sym e ∙ (sym at ∙ sym f)))
    step true is b at_p false own = refl
    step false is true at_p true own = refl
    step false is true at_p false own =
        let e : p ≡ h = grind (arith, nat_tests) in
        let f : home r.lo ≢ p = grind (arith, nat_tests) in
        absurd (f (sym at ∙ sym e))
    step false is false at_p true own =
        let e : home r.lo ≡ p = grind (arith, nat_tests) in
        let f : p ≢ h = grind (arith, nat_tests) in
        absurd (f (sym e ∙ sym at))
    step false is false at_p false own = refl

strays_at : (home : ℕ → ℕ) (bs : List (List Frames)) (h k p : ℕ) (r : Frames) (b b' : List Frames) (s s' : ℕ) → h ≡ home r.lo → k < length bs → b ≡ get_or bs k b → Gains r b b' → s' ≡ s + stray_at h k p
    → (s + of_home home p (get_or bs p []) ≡ of_home home p (all_ranges bs) → s' + of_home home p (get_or (set bs k b') p []) ≡ of_home home p (all_ranges (set bs k b')))
    × (s' + of_home home p (get_or (set bs k b') p []) ≡ of_home home p (all_ranges (set bs k b')) → s + of_home home p (get_or bs p []) ≡ of_home home p (all_ranges bs))
strays_at home bs h k p r b b' s s' at lt is g more = step (p == k) refl
  where
    weigh : Frames → ℕ
    weigh x = cond (home x.lo == p) 1 0

    step : (c : Bool) → (p == k) ≡ c
        → (s + of_home home p (get_or bs p []) ≡ of_home home p (all_ranges bs) → s' + of_home home p (get_or (set bs k b') p []) ≡ of_home home p (all_ranges (set bs k b')))
        × (s' + of_home home p (get_or (set bs k b') p []) ≡ of_home home p (all_ranges (set bs k b')) → s + of_home home p (get_or bs p []) ≡ of_home home p (all_ranges bs))
    step true same =
        let e : p ≡ k = grind (arith, nat_tests) in
        let here : get_or bs p [] ≡ b = rw e (get_or_default bs k [] b lt ∙ sym is) in
        let there : get_or (set bs k b') p [] ≡ b' = rw e (get_or-set_same bs k b' [] lt) in
        let none : stray_at h k p ≡ 0 = rw e (stray_own h k) in
        let all : of_home home p (all_ranges (set bs k b')) ≡ weigh r + of_home home p (all_ranges bs) = gains_in r bs k b b' lt is g weigh in
        let one : of_home home p b' ≡ weigh r + of_home home p b = g weigh in
        rw (here, there) (λ old. omega (arith, all, one, old, more, none), λ new. omega (arith, all, one, new, more, none))
    step false other =
        let f : p ≢ k = grind (arith, nat_tests) in
        let there : get_or (set bs k b') p [] ≡ get_or bs p [] = get_or-set_other bs k p b' [] f in
        let one : stray_at h k p ≡ weigh r = stray_is home h k p r at f in
        let all : of_home home p (all_ranges (set bs k b')) ≡ weigh r + of_home home p (all_ranges bs) = gains_in r bs k b b' lt is g weigh in
        rw there (λ old. omega (arith, all, old, more, one), λ new. omega (arith, all, new, more, one))

pub IsTable-more : (bs : List (List Frames)) (s s' : List ℕ) (bits h k room room' : ℕ) (r : Frames) (b b' : List Frames) → IsTable bs s bits room → h ≡ home_of bits r.lo → k < length bs → b ≡ get_or bs k b → Gains r b b'
    → length s' ≡ length s → room ≡ room' + 1 → ((p : ℕ) → get_or s' p 0 ≡ get_or s p 0 + stray_at h k p) → IsTable (set bs k b') s' bits room'
IsTable-more bs s s' bits h k room room' r b b' t own lt is g long less more =
    let same = length-set bs k b' in
    record {
      least = t.least;
      most = t.most;
      count = same ∙ t.count;
      slots = long ∙ (t.slots ∙ sym same);
      away = λ p at. (strays_at (home_of bits) bs h k p r b b' (get_or s p 0) (get_or s' p 0) own lt is g (more p)).0 (t.away p (omega (arith, at, same)));
      fills = omega (arith, t.fills, less, same, length_gains r (all_ranges bs) (all_ranges (set bs k b')) (gains_in r bs k b b' lt is g));
    }

-- what was there before a range went
back : (bs : List (List Frames)) (k : ℕ) (b b' : List Frames) → k < length bs → b ≡ get_or bs k b → set (set bs k b') k b ≡ bs
back [] k b b' lt is = absurd (omega arith)
back (x ∷ bs) zero b b' lt is = ap (λ y. y ∷ bs) is
back (x ∷ bs) (suc k) b b' lt is = ap (λ l. x ∷ l) (back bs k b b' (omega arith) is)

pub IsTable-less : (bs : List (List Frames)) (s s' : List ℕ) (bits h k room room' : ℕ) (r : Frames) (b b' : List Frames) → IsTable bs s bits room → h ≡ home_of bits r.lo → k < length bs → b ≡ get_or bs k b → Gains r b' b
    → length s' ≡ length s → room' ≡ room + 1 → ((p : ℕ) → get_or s p 0 ≡ get_or s' p 0 + stray_at h k p) → IsTable (set bs k b') s' bits room'
IsTable-less bs s s' bits h k room room' r b b' t own lt is g long more less =
    let same = length-set bs k b' in
    let cs = set bs k b' in
    let was : set cs k b ≡ bs = back bs k b b' lt is in
    let there : b' ≡ get_or cs k b' = sym (get_or-set_same bs k b' b' lt) in
    let within : k < length cs = omega (arith, same, lt) in
    record {
      least = t.least;
      most = t.most;
      count = same ∙ t.count;
      slots = long ∙ (t.slots ∙ sym same);
      away = λ p at.
          let old = t.away p (omega (arith, at, same)) in
          (strays_at (home_of bits) cs h k p r b' b (get_or s' p 0) (get_or s p 0) own within there g (less p)).1 (rw was old);
      fills = omega (arith, t.fills, more, same, length_gains r (all_ranges cs) (all_ranges bs) (gains_out r bs k b b' lt is g));
    }

pub set_same : (bs : List (List Frames)) (k : ℕ) (b b' : List Frames) → k < length bs → b ≡ get_or bs k b → b' ≡ b → set bs k b' ≡ bs
set_same [] k b b' lt is same = absurd (omega arith)
set_same (x ∷ bs) zero b b' lt is same = ap (λ y. y ∷ bs) (same ∙ is)
set_same (x ∷ bs) (suc k) b b' lt is same = ap (λ l. x ∷ l) (set_same bs k b b' (omega arith) is same)

-- one that is taken from where it was found
pub IsTable-taken : (o : Option Frames) (bs : List (List Frames)) (s s' : List ℕ) (bits h k lo room room' : ℕ) (b b' : List Frames) → IsTable bs s bits room → h ≡ home_of bits lo → k < length bs → b ≡ get_or bs k b
    → o ≡ find (begins_at lo) b → find (begins_at lo) (get_or bs k []) ≢ None → IfSome o (λ r. Gains r b' b)
    → length s' ≡ length s → room' ≡ room + 1 → ((p : ℕ) → get_or s p 0 ≡ get_or s' p 0 + stray_at h k p) → IsTable (set bs k b') s' bits room'
IsTable-taken None bs s s' bits h k lo room room' b b' t own lt is value some g long more less = absurd (some (rw (bucket_at bs k b lt is) (sym value)))
IsTable-taken (Some r) bs s s' bits h k lo room room' b b' t own lt is value some g long more less =
    let at : r.lo ≡ lo = found_begins lo b r (sym value) in
    IsTable-less bs s s' bits h k room room' r b b' t (own ∙ ap (home_of bits) (sym at)) lt is g long more less

-- a range that is found elsewhere than at its home counts as a stray
pub is_stray : (home : ℕ → ℕ) (bs : List (List Frames)) (s : List ℕ) (h k lo : ℕ) → h ≡ home lo → h < length bs → k < length bs → k ≢ h → find (begins_at lo) (get_or bs k []) ≢ None → AreStrays home bs s → 1 ≤ get_or s h 0
is_stray home bs s h k lo at lt within ne some away =
    let weigh : Frames → ℕ = λ r. cond (home r.lo == h) 1 0 in
    let f : List Frames → ℕ = λ b. sum_by weigh b in
    let cs = set bs k [] in
    let long = length-set bs k [] in
    let all : sum_by f cs + sum_by weigh (get_or bs k []) ≡ sum_by f bs + 0 = sum_by-set f bs k [] [] within in
    let ne' : h ≢ k = λ e. ne (sym e) in
    let here : get_or cs h [] ≡ get_or bs h [] = get_or-set_other bs k h [] [] ne' in
    let inside = parts weigh cs h (omega (arith, long, lt)) in
    let own : sum_by weigh (get_or cs h []) ≡ sum_by weigh (get_or bs h []) = ap f here in
    omega (arith, all, own, inside, away h lt, one_of_home home lo h (get_or bs k []) at some, sum_by-all weigh bs, sum_by-all weigh cs)

-- A new table.

all_ranges-empty : (n : ℕ) → all_ranges (replicate n []) ≡ []
all_ranges-empty zero = refl
all_ranges-empty (suc n) = all_ranges-empty n

in_order-empty : (home : ℕ → ℕ) (n : ℕ) → in_order home (replicate n []) ≡ []
in_order-empty home n = nothing (in_order home (replicate n [])) (length_in_order home (replicate n []) ∙ ap length (all_ranges-empty n))
  where
    nothing : (xs : List Frames) → length xs ≡ 0 → xs ≡ []
    nothing [] none = refl
    nothing (x ∷ xs) none = absurd (omega arith)

pub IsTable-new : (bs : List (List Frames)) (s : List ℕ) (n bits room : ℕ) → bs ≡ replicate n [] → s ≡ replicate n 0 → n ≡ 2 ^ bits → 48 + room ≡ 6 * n → 4 ≤ bits → bits ≤ 20 → IsTable bs s bits room
IsTable-new bs s n bits room is none long six lt le = rw (is, none) (record {
  least = lt;
  most = le;
  count = length-replicate {A = List Frames} n [] ∙ long;
  slots = length-replicate {A = ℕ} n 0 ∙ sym (length-replicate {A = List Frames} n []);
  away = λ p at.
      let within : p < n = omega (arith, at, length-replicate {A = List Frames} n []) in
      rw (get_or-replicate {A = ℕ} n p 0 0 within, get_or-replicate {A = List Frames} n p [] [] within, all_ranges-empty n) refl;
  fills = rw (all_ranges-empty n, length-replicate {A = List Frames} n []) (omega (arith, six));
})

pub held-new : (bs : List (List Frames)) (n bits : ℕ) → bs ≡ replicate n [] → in_order (home_of bits) bs ≡ []
held-new bs n bits is = rw is (in_order-empty (home_of bits) n)

pub some_buckets : (bs : List (List Frames)) (s : List ℕ) (bits room : ℕ) → IsTable bs s bits room → length bs ≤ 1048576
some_buckets bs s bits room t = let small : 2 ^ bits ≤ 2 ^ 20 = pow_mono t.most in omega (arith, small, t.count)

-- Some range of a bucket.

pub all_more : (bs : List (List Frames)) (k : ℕ) (b : List Frames) → k < length bs → b ≡ get_or bs k b → all_ranges (take (k + 1) bs) ≡ all_ranges (take k bs) ++ b
all_more bs k b lt is = ap all_ranges (take_more bs k b lt) ∙ (joined (take k bs) (get_or bs k b) ∙ ap (λ l. all_ranges (take k bs) ++ l) (sym is))

pub none_more : (bs : List (List Frames)) (k : ℕ) (b : List Frames) → k < length bs → b ≡ get_or bs k b → length b ≡ 0 → all_ranges (take k bs) ≡ [] → all_ranges (take (k + 1) bs) ≡ []
none_more bs k b lt is none before = all_more bs k b lt is ∙ (ap (λ l. l ++ b) before ∙ nothing b none)
  where
    nothing : (xs : List Frames) → length xs ≡ 0 → xs ≡ []
    nothing [] none = refl
    nothing (x ∷ xs) none = absurd (omega arith)

pub nothing_held : (home : ℕ → ℕ) (bs : List (List Frames)) → all_ranges bs ≡ [] → in_order home bs ≡ []
nothing_held home bs none = nothing (in_order home bs) (length_in_order home bs ∙ ap length none)
  where
    nothing : (xs : List Frames) → length xs ≡ 0 → xs ≡ []
    nothing [] none = refl
    nothing (x ∷ xs) none = absurd (omega arith)

-- how many begin there: as many as none, where none is found
none_begins : (lo : ℕ) (rs : List Frames) → find (begins_at lo) rs ≡ None → sum_by (λ r. cond (r.lo == lo) 1 0) rs ≡ 0
none_begins lo [] none = refl
none_begins lo (r ∷ rs) none = step (r.lo == lo) refl (none_begins lo rs) none
  where
    step : (b : Bool) → (r.lo == lo) ≡ b → (find (begins_at lo) rs ≡ None → sum_by (λ r. cond (r.lo == lo) 1 0) rs ≡ 0) → cond b (Some r) (find (begins_at lo) rs) ≡ None → sum_by (λ r. cond (r.lo == lo) 1 0) (r ∷ rs) ≡ 0
    step true is ih none = absurd (let bad : Some r ≡ None = none in cc)
    step false is ih none =
        let all = sum_by-cons (λ (r : Frames). cond (r.lo == lo) 1 0) r rs in
        let here : cond {A = ℕ} (r.lo == lo) 1 0 ≡ 0 = rw is refl in
        omega (arith, all, here, ih none)

begins : (lo : ℕ) (b : List Frames) (r : Frames) → 0 < length b → r ≡ get_or b 0 r → lo ≡ r.lo → 1 ≤ sum_by (λ r. cond (r.lo == lo) 1 0) b
begins lo [] r some is at = absurd (omega arith)
begins lo (x ∷ b) r some is at =
    let e : x.lo ≡ lo = sym (ap (λ (r : Frames). r.lo) is) ∙ sym at in
    let own : (x.lo == lo) ≡ true = grind (arith, nat_tests) in
    let all = sum_by-cons (λ (r : Frames). cond (r.lo == lo) 1 0) x b in
    let here : cond {A = ℕ} (x.lo == lo) 1 0 ≡ 1 = rw own refl in
    omega (arith, all, here)

-- a bucket that has one that begins there: it is found
pub is_found : (home : ℕ → ℕ) (lo : ℕ) (bs : List (List Frames)) (k : ℕ) (b : List Frames) (r : Frames) → k < length bs → b ≡ get_or bs k b → 0 < length b → r ≡ get_or b 0 r → lo ≡ r.lo
    → find (begins_at lo) (in_order home bs) ≢ None
is_found home lo bs k b r lt is some first at = λ none.
    let weigh : Frames → ℕ = λ r. cond (r.lo == lo) 1 0 in
    let here : get_or bs k [] ≡ b = get_or_default bs k [] b lt ∙ sym is in
    let one : 1 ≤ sum_by weigh (get_or bs k []) = rw here (begins lo b r some first at) in
    omega (arith, one, parts weigh bs k lt, sum_in_order weigh home bs, none_begins lo (in_order home bs) none)

-- The rest.

pub room_test : (room n most : ℕ) → room + n ≡ most → nat_lt 0 room ≡ nat_lt n most
room_test room n most all = step (nat_lt 0 room) refl (nat_lt n most) refl
  where
    step : (a : Bool) → nat_lt 0 room ≡ a → (b : Bool) → nat_lt n most ≡ b → a ≡ b
    step true x true y = refl
    step false x false y = refl
    step true x false y =
        let lt : 0 < room = grind (arith, nat_tests) in
        let ge : most ≤ n = grind (arith, nat_tests) in
        absurd (omega arith)
    step false x true y =
        let le : room ≤ 0 = grind (arith, nat_tests) in
        let lt : n < most = grind (arith, nat_tests) in
        absurd (omega arith)

pub none_beyond : (lo k : ℕ) (bs : List (List Frames)) → k ≡ length bs → find (begins_at lo) (get_or bs k []) ≡ None
none_beyond lo k [] is = refl
none_beyond lo zero (b ∷ bs) is = absurd (omega arith)
none_beyond lo (suc k) (b ∷ bs) is = none_beyond lo k bs (omega arith)

-- what a search has found
pub seen : (home : ℕ → ℕ) (lo h k : ℕ) (bs : List (List Frames)) → h ≡ home lo → sought lo h bs ≡ find (begins_at lo) (get_or bs k []) → find (begins_at lo) (in_order home bs) ≡ find (begins_at lo) (get_or bs k [])
seen home lo h k bs at is = find_in_order home lo h bs at ∙ is

pub is_some_not : (o : Option Frames) (b : Bool) → b ≡ is_some o → b ≡ true → o ≢ None
is_some_not None b is told = absurd (let bad : false ≡ true = sym is ∙ told in cc)
is_some_not (Some r) b is told = λ none. let bad : Some r ≡ None = none in absurd cc

pub sought_onward : (lo h k : ℕ) (bs : List (List Frames)) → k < length (drop h bs) → find (begins_at lo) (all_ranges (take k (drop h bs))) ≡ None → find (begins_at lo) (get_or (drop h bs) k []) ≢ None
    → sought lo h bs ≡ find (begins_at lo) (get_or bs (h + k) [])
sought_onward lo h k bs lt before some =
    let first = found_first lo k (drop h bs) lt before some in
    rw (first, some_or (find (begins_at lo) (get_or (drop h bs) k [])) (find (begins_at lo) (all_ranges (take h bs))) some)
    (ap (λ b. find (begins_at lo) b) (get_or-drop h bs k []))

pub sought_around : (lo h k j : ℕ) (bs : List (List Frames)) → length (drop h bs) ≤ j → find (begins_at lo) (all_ranges (take j (drop h bs))) ≡ None
    → k < length (take h bs) → k < h → find (begins_at lo) (all_ranges (take k (take h bs))) ≡ None → find (begins_at lo) (get_or (take h bs) k []) ≢ None
    → sought lo h bs ≡ find (begins_at lo) (get_or bs k [])
sought_around lo h k j bs all behind lt within before some =
    let whole = rw (take_all j (drop h bs) all) at behind in
    let first = found_first lo k (take h bs) lt before some in
    rw (whole, first) (ap (λ b. find (begins_at lo) b) (get_or-take h bs k [] within))

pub roomy_around : (bs : List (List Frames)) (h k j : ℕ) → h < length bs → length (all_ranges bs) < 7 * length bs → length (drop h bs) ≤ j → j ≡ length bs - h → length (all_ranges (take j (drop h bs))) ≡ 7 * j
    → k ≤ h → length (all_ranges (take k (take h bs))) ≡ 7 * k → k < h
roomy_around bs h k j lt room all is behind le before = step (nat_lt k h) refl
  where
    step : (b : Bool) → nat_lt k h ≡ b → k < h
    step true less = grind (arith, nat_tests)
    step false more =
        let ge : h ≤ k = grind (arith, nat_tests) in
        let same : k ≡ h = omega arith in
        let whole = rw (take_all j (drop h bs) all) at behind in
        let short : length (take h bs) ≤ k = omega (arith, length-take-le h bs (omega arith), same) in
        let front = rw (take_all k (take h bs) short) at before in
        absurd (omega (arith, all_parts h bs, whole, front, same, is, room, lt))

pub seen_out : (o : Option Frames) (home : ℕ → ℕ) (bs : List (List Frames)) (k : ℕ) (b b' : List Frames) → k < length bs → b ≡ get_or bs k b → IfSome o (λ r. Gains r b' b) → IfSome o (λ r. Gains r (in_order home (set bs k b')) (in_order home bs))
seen_out None home bs k b b' lt is g = tt
seen_out (Some r) home bs k b b' lt is g = gains_seen r home (set bs k b') bs (gains_out r bs k b b' lt is g)

-- what the home's own bucket answers
pub at_home : (home : ℕ → ℕ) (lo h : ℕ) (bs : List (List Frames)) (b : List Frames) (r : Frames) → h ≡ home lo → h < length bs → b ≡ get_or bs h b → find (begins_at lo) b ≡ Some r → find (begins_at lo) (in_order home bs) ≡ Some r
at_home home lo h bs b r at lt is found =
    let here = bucket_at bs h b lt is in
    let some : find (begins_at lo) (get_or bs h []) ≢ None = λ none. let bad : Some r ≡ None = sym found ∙ (ap (λ b. find (begins_at lo) b) (sym here) ∙ none) in absurd cc in
    find_in_order home lo h bs at ∙ (sought_at lo h bs lt some ∙ (ap (λ b. find (begins_at lo) b) here ∙ found))

pub not_at_home : (home : ℕ → ℕ) (lo h n : ℕ) (bs : List (List Frames)) (s : List ℕ) (b : List Frames) → h ≡ home lo → h < length bs → b ≡ get_or bs h b → AreStrays home bs s → h < length s → n ≡ get_or s h n → n ≤ 0 → find (begins_at lo) b ≡ None → find (begins_at lo) (in_order home bs) ≡ None
not_at_home home lo h n bs s b at lt is away within number no_stray none =
    let nothing : get_or s h 0 ≡ 0 = get_or_default s h 0 n within ∙ (sym number ∙ (let e : n ≡ 0 = omega arith in e)) in
    find_in_order home lo h bs at ∙ (alone home lo h bs s at lt away nothing ∙ (ap (λ b. find (begins_at lo) b) (bucket_at bs h b lt is) ∙ none))

-- no more strays than ranges
at_most : (home : ℕ → ℕ) (h : ℕ) (rs : List Frames) → of_home home h rs ≤ length rs
at_most home h [] = omega arith
at_most home h (r ∷ rs) = step (home r.lo == h) refl (at_most home h rs)
  where
    step : (b : Bool) → (home r.lo == h) ≡ b → of_home home h rs ≤ length rs → of_home home h (r ∷ rs) ≤ length (r ∷ rs)
    step true is ih = let one : cond {A = ℕ} (home r.lo == h) 1 0 ≡ 1 = rw is refl in omega (arith, ih, one, sum_by-cons (λ (r : Frames). cond (home r.lo == h) 1 0) r rs)
    step false is ih = let none : cond {A = ℕ} (home r.lo == h) 1 0 ≡ 0 = rw is refl in omega (arith, ih, none, sum_by-cons (λ (r : Frames). cond (home r.lo == h) 1 0) r rs)

pub few_strays : (home : ℕ → ℕ) (bs : List (List Frames)) (s : List ℕ) (h : ℕ) → h < length bs → AreStrays home bs s → get_or s h 0 ≤ length (all_ranges bs)
few_strays home bs s h lt away = omega (arith, away h lt, at_most home h (all_ranges bs))

pub seen_in : (r : Frames) (home : ℕ → ℕ) (bs : List (List Frames)) (k : ℕ) (b b' : List Frames) → k < length bs → b ≡ get_or bs k b → Gains r b b' → Gains r (in_order home bs) (in_order home (set bs k b'))
seen_in r home bs k b b' lt is g = gains_seen r home bs (set bs k b') (gains_in r bs k b b' lt is g)

-- what is left of some buckets, as a slice
pub the_rest : (h : ℕ) (bs : List (List Frames)) → take (length bs - h) (drop h bs) ≡ drop h bs
the_rest h bs = take_all (length bs - h) (drop h bs) (omega (arith, length-drop h bs))

pub seen_out_of : (r : Frames) (home : ℕ → ℕ) (bs : List (List Frames)) (k : ℕ) (b b' : List Frames) → k < length bs → b ≡ get_or bs k b → Gains r b' b → Gains r (in_order home (set bs k b')) (in_order home bs)
seen_out_of r home bs k b b' lt is g = gains_seen r home (set bs k b') bs (gains_out r bs k b b' lt is g)

pub new_held : (bs : List (List Frames)) (n bits m : ℕ) → bs ≡ replicate n [] → n ≡ m → (let t : Held = record { ranges = in_order (home_of bits) bs; capacity = 6 * length bs - 48 } in t) ≡ (let t : Held = record { ranges = []; capacity = 6 * m - 48 } in t)
new_held bs n bits m is same =
    let long : length bs ≡ m = ap length is ∙ (length-replicate {A = List Frames} n [] ∙ same) in
    rw (held-new bs n bits is, long) refl

-- Ranges that come together.

pub length_sums : (rs ts us : List Frames) → ((weigh : Frames → ℕ) → sum_by weigh ts ≡ sum_by weigh rs + sum_by weigh us) → length ts ≡ length rs + length us
length_sums rs ts us all = omega (arith, ones rs, ones ts, ones us, all (λ r. 1))

-- a bucket more
pub sum_more : (weigh : Frames → ℕ) (bs : List (List Frames)) (k : ℕ) (b : List Frames) → k < length bs → b ≡ get_or bs k b → sum_by weigh (all_ranges (take (k + 1) bs)) ≡ sum_by weigh (all_ranges (take k bs)) + sum_by weigh b
sum_more weigh bs k b lt is = ap (λ l. sum_by weigh l) (all_more bs k b lt is) ∙ sum_by-append weigh (all_ranges (take k bs)) b

-- those so far and the next bucket are within all
pub within_all : (bs : List (List Frames)) (k : ℕ) (b : List Frames) → k < length bs → b ≡ get_or bs k b → length (all_ranges (take k bs)) + length b ≤ length (all_ranges bs)
within_all bs k b lt is =
    let here = ap length (bucket_at bs k b lt is) in
    omega (arith, here, parts (λ r. 1) bs k lt, ones (all_ranges bs), ones (all_ranges (take k bs)), ones (get_or bs k []))

pub any_first : (o : Option Frames) (lo : ℕ) (rs : List Frames) → o ≡ find (begins_at lo) rs → IfSome o (λ r. find (begins_at r.lo) rs ≡ Some r)
any_first None lo rs is = tt
any_first (Some r) lo rs is = ap (λ n. find (begins_at n) rs) (found_begins lo rs r (sym is)) ∙ sym is

pub any_some : (o : Option Frames) (lo : ℕ) (rs : List Frames) → o ≡ find (begins_at lo) rs → find (begins_at lo) rs ≢ None → IfNone o (rs ≡ [])
any_some None lo rs is some = absurd (some (sym is))
any_some (Some r) lo rs is some = tt

-- a table of twice the buckets
pub twice : (bits : ℕ) → 2 ^ (bits + 1) ≡ 2 * 2 ^ bits
twice bits = let parts = pow-add 2 bits 1 in omega (arith, parts)

pub some_room : (bits : ℕ) → 4 ≤ bits → 16 ≤ 2 ^ bits
some_room bits le = let most : 2 ^ 4 ≤ 2 ^ bits = pow_mono le in most
