-- Seats that were served on are gathered: they are those of all workers.
use Rattle.std.proofs.Common.{ℕ, zero, suc, ◌≡◌, ◌∙◌, ◌%◌, ◌<◌, ◌≤◌, ◌==◌, ◌&&◌, ◌||◌, true, List, [], ◌∷◌, ◌++◌, map, length, Some, arith, refl, sym, ap, ap₂, subst}
use Rattle.std.specs.Prelude.{unwrap_or, take}
use Rattle.std.proofs.Math.Nat.{mod-eq_of_lt}
use Rattle.std.proofs.Math.Seq.{take-append_seam}
use Rattle.std.specs.List.{AllByRecursion, list_any, slice_get}
use Rattle.iova_range.specs.declared.limits.TheConstants.{SEAT_PARTS}
use Rattle.std.proofs.lemmas.Bool.Decides.{nat_tests}
use Rattle.std.proofs.lemmas.List.{length-map, length-append}
use Rattle.std.proofs.lemmas.List.Folds.{list_any-append}
use Rattle.iova_keep.specs.Views.{SeatState, seat_with, seats_in_turn}
use Rattle.iova_lock.specs.Books.{are_all, has_seat, have_seats}
use Rattle.iovad.specs.Ends.{workers_of}

-- only the workers of the seats count
seat_by_worker : (worker : ℕ) (seats : List SeatState) → has_seat worker seats ≡ list_any (λ w. w == worker) (workers_of seats)
seat_by_worker worker [] = refl
seat_by_worker worker (s ∷ seats) = ap (λ b. (s.worker == worker) || b) (seat_by_worker worker seats)

same_seat : (worker : ℕ) (xs ys : List SeatState) → workers_of xs ≡ workers_of ys → has_seat worker xs ≡ has_seat worker ys
same_seat worker xs ys same =
    seat_by_worker worker xs ∙ ap (λ ws. list_any (λ w. w == worker) ws) same ∙ sym (seat_by_worker worker ys)

same_seats : (n : ℕ) (xs ys : List SeatState) → workers_of xs ≡ workers_of ys → have_seats n xs ≡ have_seats n ys
same_seats zero xs ys same = refl
same_seats (suc n) xs ys same = ap₂ (λ a b. a && b) (same_seats n xs ys same) (same_seat n xs ys same)

pub same_length : (xs ys : List SeatState) → workers_of xs ≡ workers_of ys → length xs ≡ length ys
same_length xs ys same = sym (length-map xs (λ s. s.worker)) ∙ ap length same ∙ length-map ys (λ s. s.worker)

-- seats in turn are those of all workers
abbrev pub in_turn : (workers n : ℕ) → List SeatState
in_turn workers n = seats_in_turn SEAT_PARTS workers n

new_length : (workers n : ℕ) → length (in_turn workers n) ≡ n
new_length workers zero = refl
new_length workers (suc n) =
    length-append (in_turn workers n) (seat_with SEAT_PARTS (n % workers) ∷ []) ∙ grind (arith, new_length workers n)

has_new : (workers worker n : ℕ) → worker < workers → worker < n → has_seat worker (in_turn workers n) ≡ true
has_new workers worker zero is below = absurd (omega (arith, below))
has_new workers worker (suc n) is below =
    let itself : worker % workers ≡ worker = mod-eq_of_lt is in
    list_any-append (λ s. s.worker == worker) (in_turn workers n) (seat_with SEAT_PARTS (n % workers) ∷ [])
    ∙ grind (arith, nat_tests, itself, has_new workers worker n is)

have_new : (workers m n : ℕ) → m ≤ workers → m ≤ n → have_seats m (in_turn workers n) ≡ true
have_new workers zero n is below = refl
have_new workers (suc m) n is below =
    ap₂ (λ a b. a && b) (have_new workers m n (omega (arith, is)) (omega (arith, below)))
    (has_new workers m n (omega (arith, is)) (omega (arith, below)))

pub all_there : (workers count : ℕ) (seats : List SeatState) → workers ≤ count → workers_of seats ≡ workers_of (in_turn workers count)
    → are_all count workers seats ≡ true
all_there workers count seats enough same =
    let len : length seats ≡ count = same_length seats (in_turn workers count) same ∙ new_length workers count in
    let have : have_seats workers seats ≡ true =
    same_seats workers seats (in_turn workers count) same ∙ have_new workers workers count (omega arith) enough in
    grind (arith, nat_tests, len, have)

pub workers_at : {P : Type 0} (seat : P → SeatState) (posts : List P) → map (λ p. (seat p).worker) posts ≡ workers_of (map seat posts)
workers_at seat [] = refl
workers_at seat (p ∷ posts) = ap (λ ws. (seat p).worker ∷ ws) (workers_at seat posts)

-- posts that were lent as a slice come back as it was left
pub given_back : {P : Type 0} (f : P → ℕ) (n : ℕ) (new old rest : List P) → length old ≡ n → map f new ≡ map f old
    → take n (new ++ rest) ≡ new
given_back f n new old rest long same =
    let len : n ≡ length new = sym long ∙ sym (length-map old f) ∙ ap length (sym same) ∙ length-map new f in
    ap (λ k. take k (new ++ rest)) len ∙ take-append_seam new rest

-- posts at new seats: there is one at least, and it has its parts
pub some_posts : {P : Type 0} (seat : P → SeatState) (workers n : ℕ) (posts : List P) → 1 ≤ n → map seat posts ≡ in_turn workers n → 1 ≤ length posts
some_posts seat workers n posts some same =
    let len : length posts ≡ n = sym (length-map posts seat) ∙ ap length same ∙ new_length workers n in
    grind (arith, len, some)

abbrev HasParts : SeatState → Type 0
HasParts s = s.tally.parts ≡ SEAT_PARTS

append_parts : (xs ys : List SeatState) → AllByRecursion HasParts xs → AllByRecursion HasParts ys → AllByRecursion HasParts (xs ++ ys)
append_parts [] ys those these = these
append_parts (x ∷ xs) ys those these = (those.0, append_parts xs ys those.1 these)

have_parts : (workers n : ℕ) → AllByRecursion HasParts (in_turn workers n)
have_parts workers zero = tt
have_parts workers (suc n) =
    append_parts (in_turn workers n) (seat_with SEAT_PARTS (n % workers) ∷ []) (have_parts workers n) (refl, tt)

pub first_parts : {P : Type 0} (seat : P → SeatState) (workers n : ℕ) (posts : List P) → map seat posts ≡ in_turn workers n → (p : P)
    → slice_get posts 0 ≡ Some p → 2 ≤ (seat p).tally.parts
first_parts seat workers n [] same p is = cc
first_parts seat workers n (q ∷ posts) same p is =
    let all : AllByRecursion HasParts (map seat (q ∷ posts)) = subst (λ ss. AllByRecursion HasParts ss) (sym same) (have_parts workers n) in
    let this : q ≡ p = ap (λ o. unwrap_or o q) is in
    let parts : (seat p).tally.parts ≡ SEAT_PARTS = ap (λ r. (seat r).tally.parts) (sym this) ∙ all.0 in
    subst (λ k. 2 ≤ k) (sym parts) (omega arith)
