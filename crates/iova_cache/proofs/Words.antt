-- The ranges of a bucket's words: the first that begins at a frame, and what is left where it is taken out.
use Rattle.std.proofs.Common.{◌≡◌, ◌≢◌, ◌+◌, ◌-◌, ◌%◌, ◌^◌, ◌<◌, ◌≤◌, ◌==◌, ℕ, zero, suc, true, false, List, [], ◌∷◌, ◌++◌, length, get_or, find, map, Some, None, refl, sym, ap, ◌∙◌, arith, sum_by, take, set}
use Rattle.std.specs.List.{All, swap_remove}
use Rattle.std.proofs.lemmas.Bool.Decides.{nat_tests}
use Rattle.std.proofs.Math.Seq.{take-set-lt}
use Rattle.std.proofs.lemmas.List.{get_or_default, get_or-take, get_or-map, length-take-le, length-map, length-set, take_more, map-append}
use Rattle.std.proofs.lemmas.List.Sums.{sum_by-swap_remove, sum_by-cons}
use Rattle.std.proofs.lemmas.List.Elements.{All-take, All-set, All-get_or}
use Rattle.iova_range.specs.Frames.{Frames}
use Rattle.iova_model.specs.Clients.{begins_at}
use Rattle.iova_cache.specs.Held.{word_range, word_ranges, IsWord, AreWords, Gains}

pub find_none : (lo : ℕ) (ws us : List ℕ) → us ≡ ws → ((k : ℕ) → k < length us → get_or us k 0 % 2 ^ 40 ≢ lo) → find (begins_at lo) (map word_range ws) ≡ None
find_none lo ws us same h = rw (← same) (none us h)
  where
    none : (xs : List ℕ) → ((k : ℕ) → k < length xs → get_or xs k 0 % 2 ^ 40 ≢ lo) → find (begins_at lo) (map word_range xs) ≡ None
    none [] h = refl
    none (w ∷ xs) h =
        let ne : w % 2 ^ 40 ≢ lo = h 0 (omega arith) in
        let other : (w % 2 ^ 40 == lo) ≡ false = grind (arith, nat_tests) in
        rw other (none xs (λ k lt. h (suc k) (omega arith)))

find_first : (lo : ℕ) (ws : List ℕ) (i : ℕ) → i < length ws → ((k : ℕ) → k < i → get_or ws k 0 % 2 ^ 40 ≢ lo) → get_or ws i 0 % 2 ^ 40 ≡ lo
    → find (begins_at lo) (map word_range ws) ≡ Some (word_range (get_or ws i 0))
find_first lo [] i lt h is = absurd (omega arith)
find_first lo (w ∷ ws) zero lt h is =
    let this : (w % 2 ^ 40 == lo) ≡ true = grind (arith, nat_tests) in rw this refl
find_first lo (w ∷ ws) (suc i) lt h is =
    let ne : w % 2 ^ 40 ≢ lo = h 0 (omega arith) in
    let other : (w % 2 ^ 40 == lo) ≡ false = grind (arith, nat_tests) in
    rw other (find_first lo ws i (omega arith) (λ k lt. h (suc k) (omega arith)) is)

pub find_word : (lo : ℕ) (ws us : List ℕ) (i word : ℕ) → us ≡ ws → i < length us → ((k : ℕ) → k < i → get_or us k 0 % 2 ^ 40 ≢ lo) → get_or us i 0 % 2 ^ 40 ≡ lo
    → word ≡ get_or us i word → find (begins_at lo) (map word_range ws) ≡ Some (word_range word)
find_word lo ws us i word same lt before here is =
    let value : get_or us i 0 ≡ word = get_or_default us i 0 word lt ∙ sym is in
    rw (← same) (find_first lo us i lt before here ∙ ap (λ w. Some (word_range w)) value)

sum_by-words : (weigh : Frames → ℕ) (ws : List ℕ) → sum_by weigh (map word_range ws) ≡ sum_by (λ w. weigh (word_range w)) ws
sum_by-words weigh [] = refl
sum_by-words weigh (w ∷ ws) =
    let all = sum_by-cons weigh (word_range w) (map word_range ws) in
    let as_words = sum_by-cons (λ w. weigh (word_range w)) w ws in
    omega (arith, sum_by-words weigh ws)

-- a word that is taken out is all that leaves
pub gains_taken : (ws : List ℕ) (i word : ℕ) → i < length ws → word ≡ get_or ws i word → Gains (word_range word) (map word_range (swap_remove ws i word)) (map word_range ws)
gains_taken ws i word lt is weigh =
    let f : ℕ → ℕ = λ w. weigh (word_range w) in
    let all = sum_by-swap_remove f ws i word lt in
    let here : f (get_or ws i word) ≡ f word = ap f (sym is) in
    omega (arith, sum_by-words weigh ws, sum_by-words weigh (swap_remove ws i word))

-- and the others are as they were
pub all_taken : (ws : List ℕ) (i word : ℕ) → i < length ws → All IsWord ws → All IsWord (swap_remove ws i word)
all_taken ws i word lt all =
    All-take IsWord (length ws - 1) (set ws i (get_or ws (length ws - 1) word)) (All-set IsWord ws i (get_or ws (length ws - 1) word) (All-get_or IsWord ws (length ws - 1) word (omega arith) all) all)

-- The words in use.

take-take : (n m : ℕ) (ws : List ℕ) → n ≤ m → take n (take m ws) ≡ take n ws
take-take zero m ws le = refl
take-take (suc n) zero ws le = absurd (omega arith)
take-take (suc n) (suc m) [] le = refl
take-take (suc n) (suc m) (w ∷ ws) le = ap (λ rest. w ∷ rest) (take-take n m ws (omega arith))

-- the last word in the place of one that goes
removed : (ws : List ℕ) (count place word : ℕ) → count ≤ length ws → place < count → take (count - 1) (set ws place (get_or ws (count - 1) 0)) ≡ swap_remove (take count ws) place word
removed ws count place word le lt =
    let long : length (take count ws) ≡ count = length-take-le count ws le in
    let x = get_or ws (count - 1) 0 in
    let last : get_or (take count ws) (count - 1) word ≡ x = get_or-take count ws (count - 1) word (omega arith) ∙ get_or_default ws (count - 1) word 0 (omega arith) in
    rw (long, last)
    (sym (take-take (count - 1) count (set ws place x) (omega arith)) ∙ ap (λ l. take (count - 1) l) (take-set-lt count ws place x lt))

pub length_words : (ws : List ℕ) (count room : ℕ) → AreWords ws count room → length (word_ranges ws count) ≡ count
length_words ws count room a = let le : count ≤ length ws = omega (arith, a.within, a.slots) in length-map (take count ws) word_range ∙ length-take-le count ws le

pub words_removed : (ws : List ℕ) (count room place : ℕ) → AreWords ws count room → place < count → AreWords (set ws place (get_or ws (count - 1) 0)) (count - 1) room
words_removed ws count room place a lt =
    let le : count ≤ length ws = omega (arith, a.within, a.slots) in
    let long : length (take count ws) ≡ count = length-take-le count ws le in
    record {
      slots = length-set ws place (get_or ws (count - 1) 0) ∙ a.slots;
      within = omega (arith, a.within);
      fit = rw (removed ws count place 0 le lt) (all_taken (take count ws) place 0 (omega (arith, long)) a.fit);
    }

-- the range at a place
pub word_at : (ws : List ℕ) (count room place : ℕ) (r : Frames) → AreWords ws count room → place < count → r ≡ get_or (word_ranges ws count) place r → r ≡ word_range (get_or ws place 0)
word_at ws count room place r a lt is =
    let le : count ≤ length ws = omega (arith, a.within, a.slots) in
    let long : length (take count ws) ≡ count = length-take-le count ws le in
    is ∙ (get_or-map word_range (take count ws) place 0 r (omega (arith, long)) ∙ ap word_range (get_or-take count ws place 0 lt))

pub at_word : (ws : List ℕ) (count room place : ℕ) (r : Frames) → AreWords ws count room → place < count → r ≡ word_range (get_or ws place 0) → r ≡ get_or (word_ranges ws count) place r
at_word ws count room place r a lt is =
    let le : count ≤ length ws = omega (arith, a.within, a.slots) in
    let long : length (take count ws) ≡ count = length-take-le count ws le in
    is ∙ sym (get_or-map word_range (take count ws) place 0 r (omega (arith, long)) ∙ ap word_range (get_or-take count ws place 0 lt))

pub word_fits : (ws : List ℕ) (count room place : ℕ) → AreWords ws count room → place < count → IsWord (get_or ws place 0)
word_fits ws count room place a lt =
    let le : count ≤ length ws = omega (arith, a.within, a.slots) in
    let long : length (take count ws) ≡ count = length-take-le count ws le in
    let fits = All-get_or IsWord (take count ws) place 0 (omega (arith, long)) a.fit in
    rw (get_or-take count ws place 0 lt) at fits

pub gains_removed : (ws : List ℕ) (count room place : ℕ) (r : Frames) → AreWords ws count room → place < count → r ≡ get_or (word_ranges ws count) place r
    → Gains r (word_ranges (set ws place (get_or ws (count - 1) 0)) (count - 1)) (word_ranges ws count)
gains_removed ws count room place r a lt is =
    let le : count ≤ length ws = omega (arith, a.within, a.slots) in
    let long : length (take count ws) ≡ count = length-take-le count ws le in
    let w = get_or (take count ws) place 0 in
    let same : r ≡ word_range w = word_at ws count room place r a lt is ∙ ap word_range (sym (get_or-take count ws place 0 lt)) in
    rw (same, removed ws count place w le lt) (gains_taken (take count ws) place w (omega (arith, long)) (get_or_default (take count ws) place 0 w (omega (arith, long))))

-- the first range that begins there, by its place
pub first_at : (lo : ℕ) (ws : List ℕ) (count room place : ℕ) → AreWords ws count room → place < count → ((k : ℕ) → k < place → get_or (take count ws) k 0 % 2 ^ 40 ≢ lo) → get_or (take count ws) place 0 % 2 ^ 40 ≡ lo
    → (r : Frames) → r ≡ get_or (word_ranges ws count) place r → find (begins_at lo) (word_ranges ws count) ≡ Some r
first_at lo ws count room place a lt before found r is =
    let le : count ≤ length ws = omega (arith, a.within, a.slots) in
    let long : length (take count ws) ≡ count = length-take-le count ws le in
    find_first lo (take count ws) place (omega (arith, long)) before found
    ∙ ap (λ r. Some r) (ap word_range (get_or-take count ws place 0 lt) ∙ sym (word_at ws count room place r a lt is))

pub none_there : (lo : ℕ) (ws : List ℕ) (count : ℕ) → ((k : ℕ) → k < length (take count ws) → get_or (take count ws) k 0 % 2 ^ 40 ≢ lo) → find (begins_at lo) (word_ranges ws count) ≡ None
none_there lo ws count h = find_none lo (take count ws) (take count ws) refl h

-- the last range
pub last_word : (ws : List ℕ) (count room : ℕ) → AreWords ws count room → 1 ≤ count → word_ranges ws count ≡ word_ranges ws (count - 1) ++ word_range (get_or ws (count - 1) 0) ∷ []
last_word ws count room a some =
    let le : count - 1 < length ws = omega (arith, a.within, a.slots) in
    let n : count ≡ (count - 1) + 1 = omega arith in
    ap (λ k. word_ranges ws k) n ∙ (ap (λ l. map word_range l) (take_more ws (count - 1) 0 le) ∙ map-append word_range (take (count - 1) ws) (get_or ws (count - 1) 0 ∷ []))

pub words_less : (ws : List ℕ) (count room : ℕ) → AreWords ws count room → AreWords ws (count - 1) room
words_less ws count room a = record {
  slots = a.slots;
  within = omega (arith, a.within);
  fit = rw (← take-take (count - 1) count ws (omega arith)) (All-take IsWord (count - 1) (take count ws) a.fit);
}

-- what is left of a list whose last item is known
pub unlast : (xs ys : List Frames) (x y : Frames) → xs ++ x ∷ [] ≡ ys ++ y ∷ [] → xs ≡ ys
unlast [] [] x y is = refl
unlast [] (z ∷ []) x y is = absurd (let long = ap length is in omega (arith, long))
unlast [] (z ∷ (u ∷ ys)) x y is = absurd (let long = ap length is in omega (arith, long))
unlast (z ∷ []) [] x y is = absurd (let long = ap length is in omega (arith, long))
unlast (z ∷ (u ∷ xs)) [] x y is = absurd (let long = ap length is in omega (arith, long))
unlast (z ∷ xs) (u ∷ ys) x y is =
    let head : z ≡ u = cc in
    let tail : xs ++ x ∷ [] ≡ ys ++ y ∷ [] = cc in
    rw (head, unlast xs ys x y tail) refl
