-- The result of serving, from the beginning of a domain to its end.
use Rattle.std.proofs.Common.{ℕ, zero, suc, ◌≡◌, ◌+◌, ◌*◌, ◌%◌, Bool, List, [], ◌∷◌, ◌++◌, length, Some, None, refl, sym, subst, arith}
use Rattle.std.specs.Prelude.{IfSome, Option, slice_get, sum_by}
use Rattle.std.proofs.lemmas.List.Sums.{sum_by-append}
use Rattle.iova_range.specs.declared.limits.TheConstants.{SEAT_PARTS}
use Rattle.iova_model.specs.State.{State}
use Rattle.iova_sink.specs.Calls.{Call}
use Rattle.iova_sink.specs.Channels.{Asking, Talk}
use Rattle.iova_sink.specs.Devices.{RecordSinkState}
use Rattle.iova_command.specs.declared.sink_path.SinkPath.{SinkPath}
use Rattle.iova_files.specs.declared.sinks.EitherSink.{EitherSink}
use Rattle.iova_files.specs.Sinks.{IsOpened}
use Rattle.iova_keep.specs.Views.{SeatState, WhereKnown, seat_with, seats_in_turn}
use Rattle.iova_lock.specs.Books.{tally_parts, tally_good}
use Rattle.iova_session.specs.Posts.{EndsPost}
use Rattle.iovad.specs.Ends.{EndsEach}

-- the parts of new seats' tallies are those of the whole ledger
pub new_parts : (workers n : ℕ) → tally_parts (seats_in_turn SEAT_PARTS workers n) ≡ SEAT_PARTS * n
new_parts workers zero = refl
new_parts workers (suc n) =
    let parts : SeatState → ℕ = λ s. s.tally.parts in
    let one : sum_by parts (seats_in_turn SEAT_PARTS workers (suc n)) ≡ sum_by parts (seats_in_turn SEAT_PARTS workers n) + (0 + SEAT_PARTS) =
    sum_by-append parts (seats_in_turn SEAT_PARTS workers n) (seat_with SEAT_PARTS (n % workers) ∷ []) in
    let more : tally_parts (seats_in_turn SEAT_PARTS workers n) ≡ SEAT_PARTS * n = new_parts workers n in
    omega (arith, one, more)

-- and they have counted nothing
pub none_counted : (workers n : ℕ) → tally_good (seats_in_turn SEAT_PARTS workers n) ≡ 0
none_counted workers zero = refl
none_counted workers (suc n) =
    let good : SeatState → ℕ = λ s. s.tally.good in
    let one : sum_by good (seats_in_turn SEAT_PARTS workers (suc n)) ≡ sum_by good (seats_in_turn SEAT_PARTS workers n) + (0 + 0) =
    sum_by-append good (seats_in_turn SEAT_PARTS workers n) (seat_with SEAT_PARTS (n % workers) ∷ []) in
    let more : tally_good (seats_in_turn SEAT_PARTS workers n) ≡ 0 = none_counted workers n in
    omega (arith, one, more)

-- the first sink stays the first where one more is opened
pub first_opened : {D : Type 0} (path : SinkPath) (reset : Option ℕ) (xs : List (EitherSink (RecordSinkState D) (Asking Talk)))
    (x : EitherSink (RecordSinkState D) (Asking Talk)) → (length xs ≡ 0 → IsOpened path reset x) → IfSome (slice_get xs 0) (IsOpened path reset)
    → IfSome (slice_get (xs ++ x ∷ []) 0) (IsOpened path reset)
first_opened path reset [] x new old = new refl
first_opened path reset (y ∷ ys) x new old = old

-- where there is no post, or none that is left, nothing is ended
pub each_none : {P : Type 0} (seat : P → SeatState) (waiting : P → List ℕ) (room : P → ℕ) (flushes : Bool) (number : ℕ) (calls : List Call) (d : Option State)
    (posts : List P) → length posts ≡ 0 → WhereKnown d d (EndsEach seat waiting room flushes number posts posts calls calls)
each_none seat waiting room flushes number calls None posts none = tt
each_none seat waiting room flushes number calls (Some s) [] none = (refl, refl)
each_none seat waiting room flushes number calls (Some s) (p ∷ ps) none = absurd cc

-- one post, and then the others
pub each_more : {P : Type 0} (seat : P → SeatState) (waiting : P → List ℕ) (room : P → ℕ) (flushes : Bool) (number other : ℕ) (p q : P) (posts ps qs : List P)
    (before mid now : List Call) (d m n : Option State) → posts ≡ p ∷ ps → other ≡ number
    → WhereKnown d m (EndsPost flushes (room p) number (waiting p) (waiting q) (seat p) (seat q).held before mid)
    → WhereKnown m n (EndsEach seat waiting room flushes other ps qs mid now)
    → WhereKnown d n (EndsEach seat waiting room flushes number posts (q ∷ qs) before now)
each_more seat waiting room flushes number other p q posts ps qs before mid now None m n first same one more = tt
each_more seat waiting room flushes number other p q posts ps qs before mid now (Some s) None n first same one more = absurd one
each_more seat waiting room flushes number other p q posts ps qs before mid now (Some s) (Some h) None first same one more = absurd more
each_more seat waiting room flushes number other p q posts ps qs before mid now (Some s) (Some h) (Some t) first same one more =
    subst (λ xs. EndsEach seat waiting room flushes number xs (q ∷ qs) before now s t) (sym first)
    (mid, h, one, subst (λ k. EndsEach seat waiting room flushes k ps qs mid now h t) same more)
