-- Where a cached range has a frame.
use Rattle.std.proofs.Common.{ℕ, ◌≡◌, ◌+◌, ◌<◌, ◌||◌, Bool, true, false, List, [], ◌∷◌, ◌++◌, length, Some, refl, ap, ◌∙◌, drop-cons, add-one, cond}
use Rattle.std.specs.Prelude.{drop, slice_index_or, find, option_map}
use Rattle.std.specs.List.{list_any, AllByRecursion}
use Rattle.std.proofs.lemmas.List.Folds.{list_any-append}
use Rattle.iova_range.specs.Frames.{Frames, covers}
use Rattle.iova_model.specs.declared.place.Place.{Place}
use Rattle.iova_model.specs.declared.place.Place.TheVariants as place
use Rattle.iova_model.specs.Caches.{Cache, of_order}
use Rattle.iova_model.specs.State.{Holder, at_place, cache_holders, magazine_holders, list_holders, depot_holders}

abbrev pub has : ℕ → Holder → Bool
has frame h = covers frame h.range

abbrev pub place_in : Holder → Place
place_in h = h.place

-- Lists of a depot.

any-at_place : (frame : ℕ) (p : Place) (rs : List Frames) → list_any (has frame) (at_place p rs) ≡ list_any (covers frame) rs
any-at_place frame p [] = refl
any-at_place frame p (r ∷ rs) = rw (any-at_place frame p rs) refl

-- one list and those after it
pub any-list_holders : (frame order i : ℕ) (lists : List (List ℕ)) (los : List ℕ) (has_one : Bool) → i < length lists → slice_index_or lists i [] ≡ los → has_one ≡ list_any (covers frame) (of_order order los)
    → list_any (has frame) (list_holders order (drop i lists)) ≡ (has_one || list_any (has frame) (list_holders order (drop (i + 1) lists)))
any-list_holders frame order i lists los has_one lt at is =
    let rest = list_holders order (drop (i + 1) lists) in
    let head : drop i lists ≡ los ∷ drop (i + 1) lists = rw (add-one, ← at) (drop-cons lists i [] lt) in
    rw (head, is) (list_any-append (has frame) (at_place place.Depot (of_order order los)) rest ∙ rw (any-at_place frame place.Depot (of_order order los)) refl)

-- The first holder that has the frame.

AreAt : Place → List Holder → Type 0
AreAt p hs = AllByRecursion (λ (h : Holder). h.place ≡ p) hs

find_step : (frame : ℕ) (h : Holder) (rest : List Holder) (b : Bool) → has frame h ≡ b → find (has frame) (h ∷ rest) ≡ cond b (Some h) (find (has frame) rest)
find_step frame h rest b is = ap (λ (b : Bool). cond b (Some h) (find (has frame) rest)) is

skip_step : (frame : ℕ) (h : Holder) (hs others : List Holder) (b : Bool) → has frame h ≡ b → (b || list_any (has frame) hs) ≡ false
    → (list_any (has frame) hs ≡ false → find (has frame) (hs ++ others) ≡ find (has frame) others) → find (has frame) (h ∷ hs ++ others) ≡ find (has frame) others
skip_step frame h hs others true is none more = absurd cc
skip_step frame h hs others false is none more = find_step frame h (hs ++ others) false is ∙ more none

-- is after holders that don't have it
pub find_behind : (frame : ℕ) (hs others : List Holder) → list_any (has frame) hs ≡ false → find (has frame) (hs ++ others) ≡ find (has frame) others
find_behind frame [] others none = refl
find_behind frame (h ∷ hs) others none = skip_step frame h hs others (has frame h) refl none (find_behind frame hs others)

here_step : (frame : ℕ) (p : Place) (h : Holder) (hs others : List Holder) (b : Bool) → has frame h ≡ b → h.place ≡ p → (b || list_any (has frame) hs) ≡ true
    → (list_any (has frame) hs ≡ true → option_map place_in (find (has frame) (hs ++ others)) ≡ Some p) → option_map place_in (find (has frame) (h ∷ hs ++ others)) ≡ Some p
here_step frame p h hs others true is at some more = ap (option_map place_in) (find_step frame h (hs ++ others) true is) ∙ ap (λ (q : Place). Some q) at
here_step frame p h hs others false is at some more = ap (option_map place_in) (find_step frame h (hs ++ others) false is) ∙ more some

-- or at their place, if one of them has it
find_at : (frame : ℕ) (p : Place) (hs others : List Holder) → AllByRecursion (λ (h : Holder). h.place ≡ p) hs → list_any (has frame) hs ≡ true → option_map place_in (find (has frame) (hs ++ others)) ≡ Some p
find_at frame p [] others at some = absurd cc
find_at frame p (h ∷ hs) others at some = here_step frame p h hs others (has frame h) refl at.0 some (find_at frame p hs others at.1)

at_append : (p : Place) (xs ys : List Holder) → AllByRecursion (λ (h : Holder). h.place ≡ p) xs → AllByRecursion (λ (h : Holder). h.place ≡ p) ys → AllByRecursion (λ (h : Holder). h.place ≡ p) (xs ++ ys)
at_append p [] ys at at' = at'
at_append p (x ∷ xs) ys at at' = (at.0, at_append p xs ys at.1 at')

all_at : (p : Place) (rs : List Frames) → AllByRecursion (λ (h : Holder). h.place ≡ p) (at_place p rs)
all_at p [] = tt
all_at p (r ∷ rs) = (refl, all_at p rs)

at_worker : (w o : ℕ) (cs : List Cache) → AllByRecursion (λ (h : Holder). h.place ≡ place.Magazine w) (cache_holders w o cs)
at_worker w o [] = tt
at_worker w o (c ∷ cs) =
    let p = place.Magazine w in
    let behind = cache_holders w (o + 1) cs in
    at_append p (at_place p (of_order o c.loaded)) (at_place p (of_order o c.previous) ++ behind) (all_at p (of_order o c.loaded))
    (at_append p (at_place p (of_order o c.previous)) behind (all_at p (of_order o c.previous)) (at_worker w (o + 1) cs))

at_depot : (o : ℕ) (lists : List (List ℕ)) → AllByRecursion (λ (h : Holder). h.place ≡ place.Depot) (list_holders o lists)
at_depot o [] = tt
at_depot o (los ∷ rest) = at_append place.Depot (at_place place.Depot (of_order o los)) (list_holders o rest) (all_at place.Depot (of_order o los)) (at_depot o rest)

append_assoc_holders : (xs ys zs : List Holder) → (xs ++ ys) ++ zs ≡ xs ++ (ys ++ zs)
append_assoc_holders [] ys zs = refl
append_assoc_holders (x ∷ xs) ys zs = ap (λ (hs : List Holder). x ∷ hs) (append_assoc_holders xs ys zs)

pub workers_from : (w : ℕ) (ws : List (List Cache)) (cs : List Cache) → w < length ws → slice_index_or ws w [] ≡ cs → magazine_holders w (drop w ws) ≡ cache_holders w 0 cs ++ magazine_holders (w + 1) (drop (w + 1) ws)
workers_from w ws cs lt at = let head : drop w ws ≡ cs ∷ drop (w + 1) ws = rw (add-one, ← at) (drop-cons ws w [] lt) in rw head refl

depots_from : (o : ℕ) (ds : List (List (List ℕ))) (lists : List (List ℕ)) → o < length ds → slice_index_or ds o [] ≡ lists → depot_holders o (drop o ds) ≡ list_holders o lists ++ depot_holders (o + 1) (drop (o + 1) ds)
depots_from o ds lists lt at = let head : drop o ds ≡ lists ∷ drop (o + 1) ds = rw (add-one, ← at) (drop-cons ds o [] lt) in rw head refl

-- a worker that has it, and one that hasn't
pub find_in_worker : (frame w : ℕ) (ws : List (List Cache)) (cs : List Cache) (others : List Holder) → w < length ws → slice_index_or ws w [] ≡ cs → list_any (has frame) (cache_holders w 0 cs) ≡ true
    → option_map place_in (find (has frame) (magazine_holders w (drop w ws) ++ others)) ≡ Some (place.Magazine w)
find_in_worker frame w ws cs others lt at some =
    let behind = magazine_holders (w + 1) (drop (w + 1) ws) in
    rw (workers_from w ws cs lt at, append_assoc_holders (cache_holders w 0 cs) behind others) (find_at frame (place.Magazine w) (cache_holders w 0 cs) (behind ++ others) (at_worker w 0 cs) some)

pub find_behind_worker : (frame w : ℕ) (ws : List (List Cache)) (cs : List Cache) (others : List Holder) → w < length ws → slice_index_or ws w [] ≡ cs → list_any (has frame) (cache_holders w 0 cs) ≡ false
    → find (has frame) (magazine_holders w (drop w ws) ++ others) ≡ find (has frame) (magazine_holders (w + 1) (drop (w + 1) ws) ++ others)
find_behind_worker frame w ws cs others lt at none =
    let behind = magazine_holders (w + 1) (drop (w + 1) ws) in
    rw (workers_from w ws cs lt at, append_assoc_holders (cache_holders w 0 cs) behind others) (find_behind frame (cache_holders w 0 cs) (behind ++ others) none)

-- a depot that has it, and one that hasn't
pub find_in_depot : (frame o : ℕ) (ds : List (List (List ℕ))) (lists : List (List ℕ)) → o < length ds → slice_index_or ds o [] ≡ lists → list_any (has frame) (list_holders o lists) ≡ true
    → option_map place_in (find (has frame) (depot_holders o (drop o ds))) ≡ Some place.Depot
find_in_depot frame o ds lists lt at some =
    rw (depots_from o ds lists lt at) (find_at frame place.Depot (list_holders o lists) (depot_holders (o + 1) (drop (o + 1) ds)) (at_depot o lists) some)

pub find_behind_depot : (frame o : ℕ) (ds : List (List (List ℕ))) (lists : List (List ℕ)) → o < length ds → slice_index_or ds o [] ≡ lists → list_any (has frame) (list_holders o lists) ≡ false
    → find (has frame) (depot_holders o (drop o ds)) ≡ find (has frame) (depot_holders (o + 1) (drop (o + 1) ds))
find_behind_depot frame o ds lists lt at none =
    rw (depots_from o ds lists lt at) (find_behind frame (list_holders o lists) (depot_holders (o + 1) (drop (o + 1) ds)) none)
