-- What serving leaves of seats, one after another.
use Rattle.std.proofs.Common.{ℕ, ◌≡◌, ◌∙◌, ◌+◌, ◌≤◌, Option, List, [], ◌∷◌, ◌++◌, map, length, sym, ap, refl, arith}
use Rattle.std.specs.Prelude.{sum, sum_by, slice_index_or}
use Rattle.std.proofs.Math.Seq.{get_or-append_seam}
use Rattle.std.proofs.lemmas.List.Sums.{sum_by-append, sum-map}
use Rattle.std.proofs.lemmas.Simd.{map-map}
use Rattle.std.proofs.lemmas.List.{append-nil, length-append, length-map, map-append}
use Rattle.iova_sink.specs.Calls.{Call, good_calls}
use Rattle.iova_model.specs.State.{State}
use Rattle.iova_keep.specs.Views.{Identity, SeatState, TallyState, KeepsPlace, RisesWithin}
use Rattle.iova_session.specs.declared.session_limits.SessionLimits.{SessionLimits}
use Rattle.iova_lock.specs.Books.{tally_parts}
use Rattle.iova_daemon.specs.Serving.{AreKept, none, kept, AreWithin, CountsWithin}
use Rattle.iova_daemon.specs.SessionThreads.{ThreadStart, ServesPost, AllServed, none_served, more_served, starts}

-- one more thread, after all others
served_last : {L : Type 0} (left sent : L → Option (List ℕ)) (calls reads : L → ℕ) {ts : List ThreadStart} {ss : List SeatState}
    {ws : List (List ℕ)} {cs : List (List Call)} (t : ThreadStart) (s : SeatState) (w : List ℕ) (c : List Call)
    → AllServed left sent calls reads ts ss ws cs → ServesPost left sent calls reads t s w c
    → AllServed left sent calls reads (ts ++ t ∷ []) (ss ++ s ∷ []) (ws ++ w ∷ []) (cs ++ c ∷ [])
served_last left sent calls reads t s w c none_served one = more_served t s w c [] [] [] [] one none_served
served_last left sent calls reads t s w c (more_served u x y d ts ss ws cs first more) one =
    more_served u x y d (ts ++ t ∷ []) (ss ++ s ∷ []) (ws ++ w ∷ []) (cs ++ c ∷ []) first (served_last left sent calls reads t s w c more one)

-- what threads had and gave back was served, and one thread's more
pub more_kept : {L H A B : Type 0} (left sent : L → Option (List ℕ)) (calls reads : L → ℕ) (start : H → ThreadStart) (seat : A → SeatState)
    (waiting : A → List ℕ) (told : B → List Call) (hs : List H) (ps : List A) (qs : List B) (h : H) (a : A) (b : B)
    → AllServed left sent calls reads (map start hs) (map seat ps) (map waiting ps) (map told qs)
    → ServesPost left sent calls reads (start h) (seat a) (waiting a) (told b)
    → AllServed left sent calls reads (map start (hs ++ h ∷ [])) (map seat (ps ++ a ∷ [])) (map waiting (ps ++ a ∷ [])) (map told (qs ++ b ∷ []))
more_kept left sent calls reads start seat waiting told hs ps qs h a b before one =
    rw (map-append start hs (h ∷ [])) (rw (map-append seat ps (a ∷ [])) (rw (map-append waiting ps (a ∷ [])) (rw (map-append told qs (b ∷ []))
    (served_last left sent calls reads (start h) (seat a) (waiting a) (told b) before one))))

-- what threads keep of their places
pub kept_of : {L : Type 0} (left sent : L → Option (List ℕ)) (calls reads : L → ℕ) {ts : List ThreadStart} {ss : List SeatState}
    {ws : List (List ℕ)} {cs : List (List Call)} → AllServed left sent calls reads ts ss ws cs
    → AreKept (map (λ t. t.seat) ts) (map (λ t. t.calls) ts) ss cs
kept_of left sent calls reads none_served = none
kept_of left sent calls reads (more_served t s w c ts ss ws cs one more) =
    kept t.seat s t.calls c (map (λ t. t.seat) ts) ss (map (λ t. t.calls) ts) cs one.place (kept_of left sent calls reads more)

-- the seats of starts, and the calls, where there is one of each
starts_seats : (limits : SessionLimits) (k : Identity) (d : Option State) (ss : List SeatState) (ws : List (List ℕ)) (cs : List (List Call))
    → length ws ≡ length ss → length cs ≡ length ss → map (λ t. t.seat) (starts limits k d ss ws cs) ≡ ss
starts_seats limits k d [] ws cs e f = refl
starts_seats limits k d (s ∷ ss) [] cs e f = absurd (omega (arith, e))
starts_seats limits k d (s ∷ ss) (w ∷ ws) [] e f = absurd (omega (arith, f))
starts_seats limits k d (s ∷ ss) (w ∷ ws) (c ∷ cs) e f =
    ap (λ (xs : List SeatState). s ∷ xs) (starts_seats limits k d ss ws cs (omega (arith, e)) (omega (arith, f)))

starts_calls : (limits : SessionLimits) (k : Identity) (d : Option State) (ss : List SeatState) (ws : List (List ℕ)) (cs : List (List Call))
    → length ws ≡ length ss → length cs ≡ length ss → map (λ t. t.calls) (starts limits k d ss ws cs) ≡ cs
starts_calls limits k d [] ws [] e f = refl
starts_calls limits k d [] ws (c ∷ cs) e f = absurd (omega (arith, f))
starts_calls limits k d (s ∷ ss) [] cs e f = absurd (omega (arith, e))
starts_calls limits k d (s ∷ ss) (w ∷ ws) [] e f = absurd (omega (arith, f))
starts_calls limits k d (s ∷ ss) (w ∷ ws) (c ∷ cs) e f =
    ap (λ (xs : List (List Call)). c ∷ xs) (starts_calls limits k d ss ws cs (omega (arith, e)) (omega (arith, f)))

pub kept_of_starts : {L : Type 0} (left sent : L → Option (List ℕ)) (calls reads : L → ℕ) (limits : SessionLimits) (k : Identity) (d : Option State)
    (ss : List SeatState) (ws : List (List ℕ)) (cs : List (List Call)) {ts : List SeatState} {vs : List (List ℕ)} {ds : List (List Call)}
    → length ws ≡ length ss → length cs ≡ length ss → AllServed left sent calls reads (starts limits k d ss ws cs) ts vs ds
    → AreKept ss cs ts ds
kept_of_starts {L} left sent calls reads limits k d ss ws cs {ts} {vs} {ds} e f all =
    let kept : AreKept (map (λ t. t.seat) (starts limits k d ss ws cs)) (map (λ t. t.calls) (starts limits k d ss ws cs)) ts ds = kept_of {L = L} left sent calls reads all in
    rw (starts_seats limits k d ss ws cs e f, starts_calls limits k d ss ws cs e f) at kept

first_same : {A : Type 0} (x y : A) (xs ys : List A) → x ∷ xs ≡ y ∷ ys → x ≡ y
first_same x y xs ys e = cc

rest_same : {A : Type 0} (x y : A) (xs ys : List A) → x ∷ xs ≡ y ∷ ys → xs ≡ ys
rest_same x y xs ys e = cc

no_first : {A : Type 0} (x : A) (xs : List A) → [] ≡ x ∷ xs → ⊥
no_first x xs e = cc

no_rest : {A : Type 0} (x : A) (xs : List A) → x ∷ xs ≡ [] → ⊥
no_rest x xs e = cc

one_start : (limits limits' : SessionLimits) (k k' : Identity) (d d' : Option State) (s s' : SeatState) (w w' : List ℕ) (c c' : List Call)
    → limits ≡ limits' → k ≡ k' → d ≡ d' → s ≡ s' → w ≡ w' → c ≡ c'
    → ◌≡◌ {A = ThreadStart} (record { limits = limits; identity = k; domain = d; seat = s; waiting = w; calls = c })
    (record { limits = limits'; identity = k'; domain = d'; seat = s'; waiting = w'; calls = c' })
one_start limits limits' k k' d d' s s' w w' c c' a b e f g h = rw (a, b, e, f, g, h) refl

-- threads that were started one after another with these
pub started_are : {H P K : Type 0} (lim : H → SessionLimits) (keeper : H → K) (identity : K → Identity) (domain : K → Option State)
    (seat_of : H → SeatState) (waiting_of : H → List ℕ) (calls_of : H → List Call) (limits : SessionLimits) (k : K)
    (seat : P → SeatState) (waiting : P → List ℕ) (hs : List H) (ps : List P) (cs : List (List Call))
    → map lim hs ≡ map (λ p. limits) ps → map keeper hs ≡ map (λ p. k) ps → map seat_of hs ≡ map seat ps
    → map waiting_of hs ≡ map waiting ps → map calls_of hs ≡ cs
    → ◌≡◌ {A = List ThreadStart} (map (λ h. record { limits = lim h; identity = identity (keeper h); domain = domain (keeper h); seat = seat_of h; waiting = waiting_of h; calls = calls_of h }) hs)
    (starts limits (identity k) (domain k) (map seat ps) (map waiting ps) cs)
started_are lim keeper identity domain seat_of waiting_of calls_of limits k seat waiting [] [] cs a b e f g = refl
started_are lim keeper identity domain seat_of waiting_of calls_of limits k seat waiting [] (p ∷ ps) cs a b e f g = absurd (no_first _ _ a)
started_are lim keeper identity domain seat_of waiting_of calls_of limits k seat waiting (h ∷ hs) [] cs a b e f g = absurd (no_rest _ _ a)
started_are lim keeper identity domain seat_of waiting_of calls_of limits k seat waiting (h ∷ hs) (p ∷ ps) [] a b e f g = absurd (no_rest _ _ g)
started_are lim keeper identity domain seat_of waiting_of calls_of limits k seat waiting (h ∷ hs) (p ∷ ps) (x ∷ cs) a b e f g =
    let same = first_same _ _ _ _ b in
    let one = one_start _ _ _ _ _ _ _ _ _ _ _ _ (first_same _ _ _ _ a) (ap identity same) (ap domain same) (first_same _ _ _ _ e) (first_same _ _ _ _ f) (first_same _ _ _ _ g) in
    let more = started_are lim keeper identity domain seat_of waiting_of calls_of limits k seat waiting hs ps cs (rest_same _ _ _ _ a) (rest_same _ _ _ _ b)
    (rest_same _ _ _ _ e) (rest_same _ _ _ _ f) (rest_same _ _ _ _ g) in
    ap (λ (t : ThreadStart). t ∷ map (λ h. record { limits = lim h; identity = identity (keeper h); domain = domain (keeper h); seat = seat_of h; waiting = waiting_of h; calls = calls_of h }) hs) one
    ∙ ap (λ (ts : List ThreadStart). record { limits = limits; identity = identity k; domain = domain k; seat = seat p; waiting = waiting p; calls = x } ∷ ts) more

-- the last of a list, by its place
pub last_of : {A B : Type 0} (f : A → B) (xs zs : List A) (x : A) (d : B) (n : ℕ) → zs ≡ xs ++ x ∷ [] → n ≡ length xs
    → slice_index_or (map f zs) n d ≡ f x
last_of f xs zs x d n all here =
    let split : map f zs ≡ map f xs ++ f x ∷ [] = ap (map f) all ∙ map-append f xs (x ∷ []) in
    let at : n ≡ length (map f xs) = here ∙ sym (length-map xs f) in
    rw (split, at) (get_or-append_seam (map f xs) (f x) [] d)

-- workers are those that they were
pub same_workers : {ss ts : List SeatState} {cs ds : List (List Call)} → AreKept ss cs ts ds
    → map (λ s. s.worker) ts ≡ map (λ s. s.worker) ss
same_workers none = refl
same_workers (kept s t c d ss ts cs ds one more) = rw one.worker (ap (λ ws. s.worker ∷ ws) (same_workers more))

-- no more was counted than sinks were given good calls
pub counted_within : {ss ts : List SeatState} {cs ds : List (List Call)} → AreKept ss cs ts ds → AreWithin ss cs ts ds
counted_within none = omega arith
counted_within (kept s t c d ss ts cs ds one more) =
    let good : SeatState → ℕ = λ s. s.tally.good in
    let a : sum_by good (t ∷ ts) ≡ 0 + t.tally.good + sum_by good ts = sum_by-append good (t ∷ []) ts in
    let b : sum_by good (s ∷ ss) ≡ 0 + s.tally.good + sum_by good ss = sum_by-append good (s ∷ []) ss in
    let e : sum_by good_calls (c ∷ cs) ≡ 0 + good_calls c + sum_by good_calls cs = sum_by-append good_calls (c ∷ []) cs in
    let f : sum_by good_calls (d ∷ ds) ≡ 0 + good_calls d + sum_by good_calls ds = sum_by-append good_calls (d ∷ []) ds in
    let first : t.tally.good + good_calls c ≤ s.tally.good + good_calls d = one.tally in
    let rest : sum_by good ts + sum_by good_calls cs ≤ sum_by good ss + sum_by good_calls ds = counted_within more in
    omega (arith, a, b, e, f, first, rest)

-- a front that is as long as the whole is the whole
pub whole_front : {A : Type 0} (xs ys zs : List A) → xs ++ ys ≡ zs → length xs ≡ length zs → xs ≡ zs
whole_front xs [] zs both long = sym (append-nil xs) ∙ both
whole_front xs (y ∷ ys) zs both long =
    let more = length-append xs (y ∷ ys) in let all = ap length both in absurd (omega (arith, more, all, long))

-- before the first one is back
pub none_kept : {L A B : Type 0} (left sent : L → Option (List ℕ)) (calls reads : L → ℕ) (seat : A → SeatState) (waiting : A → List ℕ)
    (told : B → List Call) (ps : List A) (qs : List B) → ps ≡ [] → qs ≡ []
    → AllServed left sent calls reads [] (map seat ps) (map waiting ps) (map told qs)
none_kept left sent calls reads seat waiting told ps qs no_place no_sink = rw no_place (rw no_sink none_served)

-- the flusher's sink is the last of all, and its tally begins at 0
pub counts_all : {D : Type 0} (calls : D → List Call) (sinks others : List D) (last : D) (seats seats_now : List SeatState)
    (ds : List (List Call)) (tally : TallyState) (after : List Call) → sinks ≡ others ++ last ∷ []
    → AreWithin seats (map calls others) seats_now ds → RisesWithin 0 tally.good (calls last) after
    → CountsWithin seats (map calls sinks) seats_now tally ds after
counts_all calls sinks others last seats seats_now ds tally after all within rises =
    let good : SeatState → ℕ = λ s. s.tally.good in
    let split : map calls sinks ≡ map calls others ++ calls last ∷ [] = ap (map calls) all ∙ map-append calls others (last ∷ []) in
    let sum : sum_by good_calls (map calls sinks) ≡ sum_by good_calls (map calls others) + (0 + good_calls (calls last)) =
    ap (sum_by good_calls) split ∙ sum_by-append good_calls (map calls others) (calls last ∷ []) in
    let workers : sum_by good seats_now + sum_by good_calls (map calls others) ≤ sum_by good seats + sum_by good_calls ds = within in
    let flusher : tally.good + good_calls (calls last) ≤ 0 + good_calls after = rises in
    omega (arith, sum, workers, flusher)

-- of places from which something was split off before, workers and counts were left
pub workers_kept : {A : Type 0} (seat : A → SeatState) (old mid now : List A) {cs ds : List (List Call)}
    → AreKept (map seat mid) cs (map seat now) ds
    → map (λ p. (seat p).worker) mid ≡ map (λ p. (seat p).worker) old
    → map (λ p. (seat p).worker) now ≡ map (λ p. (seat p).worker) old
workers_kept seat old mid now between left =
    sym (map-map (λ s. s.worker) seat now) ∙ same_workers between ∙ map-map (λ s. s.worker) seat mid ∙ left

same_good : {A : Type 0} (seat : A → SeatState) (xs ys : List A)
    → map (λ p. (seat p).tally.good) xs ≡ map (λ p. (seat p).tally.good) ys
    → sum_by (λ s. s.tally.good) (map seat xs) ≡ sum_by (λ s. s.tally.good) (map seat ys)
same_good seat xs ys same =
    let good : SeatState → ℕ = λ s. s.tally.good in
    sym (sum-map good (map seat xs)) ∙ ap sum (map-map good seat xs ∙ same ∙ sym (map-map good seat ys)) ∙ sum-map good (map seat ys)

pub within_kept : {A : Type 0} (seat : A → SeatState) (old mid now : List A) {cs ds : List (List Call)}
    → AreKept (map seat mid) cs (map seat now) ds
    → map (λ p. (seat p).tally.good) mid ≡ map (λ p. (seat p).tally.good) old
    → AreWithin (map seat old) cs (map seat now) ds
within_kept seat old mid now {cs} {ds} between left =
    let good : SeatState → ℕ = λ s. s.tally.good in
    let within : sum_by good (map seat now) + sum_by good_calls cs ≤ sum_by good (map seat mid) + sum_by good_calls ds = counted_within between in
    let same : sum_by good (map seat mid) ≡ sum_by good (map seat old) = same_good seat mid old left in
    omega (arith, within, same)

-- no part of a tally is lost
same_parts : {ss ts : List SeatState} {cs ds : List (List Call)} → AreKept ss cs ts ds → tally_parts ts ≡ tally_parts ss
same_parts none = refl
same_parts (kept s t c d ss ts cs ds one more) =
    let parts : SeatState → ℕ = λ s. s.tally.parts in
    let a : sum_by parts (t ∷ ts) ≡ 0 + t.tally.parts + sum_by parts ts = sum_by-append parts (t ∷ []) ts in
    let b : sum_by parts (s ∷ ss) ≡ 0 + s.tally.parts + sum_by parts ss = sum_by-append parts (s ∷ []) ss in
    let rest : sum_by parts ts ≡ sum_by parts ss = same_parts more in
    omega (arith, a, b, one.parts, rest)

-- of places from which a part was split off before, as many are left with that one
pub parts_kept : {A : Type 0} (seat : A → SeatState) (old mid now : List A) {cs ds : List (List Call)} (split left : ℕ)
    → AreKept (map seat mid) cs (map seat now) ds
    → tally_parts (map seat mid) + split ≡ tally_parts (map seat old) → left ≡ split
    → tally_parts (map seat now) + left ≡ tally_parts (map seat old)
parts_kept seat old mid now split left between before same =
    omega (arith, same_parts between, before, same)
