-- The totals over some clients, as one of them changes, comes or goes.
use Rattle.std.proofs.Common.{◌≡◌, ℕ, suc, ◌+◌, ◌*◌, ◌^◌, ◌≤◌, ◌==◌, Bool, true, false, cond, List, [], ◌∷◌, ◌++◌, length, None, Some, find, filter, sum_by, refl, sym, ap, ◌∙◌, arith, length-append}
use Rattle.std.specs.Prelude.{nat_le, nat_lt}
use Rattle.std.specs.List.{AllByRecursion}
use Rattle.std.proofs.lemmas.Bool.Decides.{nat_tests}
use Rattle.std.proofs.lemmas.List.Sums.{sum_by-cons, sum_by-append}
use Rattle.iova_range.specs.Frames.{Frames}
use Rattle.iova_model.specs.declared.totals.Totals.{Totals}
use Rattle.iova_model.specs.Clients.{Client, has_id, client_with, change_client, without_client, insert_rising, begins_at, remove_at, with_holding, without_holding, totals_of, no_totals, all_holdings, totals, share_of}
use Rattle.iova_model.specs.Effects.{add_totals}
use Rattle.iova_model.specs.Valid.{IsClient}
use Rattle.iova_clients.specs.Registry.{Registry, IsBelowTop, HoldsLow, IsRegistry}
use Rattle.iova_clients.proofs.Kept.{length-insert_rising}
use Rattle.iova_clients.specs.Sums.{with_one, without_one, HaveRoom, Include}

-- The totals over the clients that pass a test, as three sums over the clients.

abbrev pub count_of : Client → ℕ
count_of c = length c.holdings

abbrev pub frames_of : Client → ℕ
frames_of c = sum_by (λ r. r.len) c.holdings

abbrev pub sum_lo_of : Client → ℕ
sum_lo_of c = sum_by (λ r. r.lo) c.holdings

-- of a client that passes
abbrev pub passing : (Client → Bool) → (Client → ℕ) → Client → ℕ
passing p m c = cond (p c) (m c) 0

abbrev pub totals_by : (Client → Bool) → List Client → Totals
totals_by p cs = record {
  count = sum_by (passing p count_of) cs;
  frames = sum_by (passing p frames_of) cs;
  sum_lo = sum_by (passing p sum_lo_of) cs;
}

same_totals : (a b c d e f : ℕ) → a ≡ d → b ≡ e → c ≡ f
    → ◌≡◌ {A = Totals} (record { count = a; frames = b; sum_lo = c }) (record { count = d; frames = e; sum_lo = f })
same_totals a b c d e f x y z = cc

count_passing : (p : Client → Bool) (cs : List Client) → length (all_holdings (filter p cs)) ≡ sum_by (passing p count_of) cs
count_passing p [] = refl
count_passing p (c ∷ cs) = step (p c) (count_passing p cs) ∙ sym (sum_by-cons (passing p count_of) c cs)
  where
    step : (b : Bool) → length (all_holdings (filter p cs)) ≡ sum_by (passing p count_of) cs
        → length (all_holdings (cond b (c ∷ filter p cs) (filter p cs))) ≡ cond b (count_of c) 0 + sum_by (passing p count_of) cs
    step true ih = omega (arith, length-append c.holdings (all_holdings (filter p cs)))
    step false ih = omega arith

sum_passing : (g : Frames → ℕ) (p : Client → Bool) (cs : List Client) → sum_by g (all_holdings (filter p cs)) ≡ sum_by (passing p (λ c. sum_by g c.holdings)) cs
sum_passing g p [] = refl
sum_passing g p (c ∷ cs) = step (p c) (sum_passing g p cs) ∙ sym (sum_by-cons (passing p (λ c. sum_by g c.holdings)) c cs)
  where
    step : (b : Bool) → sum_by g (all_holdings (filter p cs)) ≡ sum_by (passing p (λ c. sum_by g c.holdings)) cs
        → sum_by g (all_holdings (cond b (c ∷ filter p cs) (filter p cs))) ≡ cond b (sum_by g c.holdings) 0 + sum_by (passing p (λ c. sum_by g c.holdings)) cs
    step true ih = let e = sum_by-append g c.holdings (all_holdings (filter p cs)) in omega arith
    step false ih = omega arith

totals_of-by : (p : Client → Bool) (cs : List Client) → totals_of (all_holdings (filter p cs)) ≡ totals_by p cs
totals_of-by p cs = same_totals _ _ _ _ _ _ (count_passing p cs) (sum_passing (λ r. r.len) p cs) (sum_passing (λ r. r.lo) p cs)

abbrev pub is_of : ℕ → Client → Bool
is_of worker c = c.worker == worker

-- of this worker or of one behind it; so all are from worker 0
abbrev pub is_from : ℕ → Client → Bool
is_from worker c = nat_le worker c.worker

filter_all : (cs : List Client) → filter (is_from 0) cs ≡ cs
filter_all [] = refl
filter_all (c ∷ cs) =
    let passes : nat_le 0 c.worker ≡ true = grind (arith, nat_tests) in
    rw passes (ap (λ xs. c ∷ xs) (filter_all cs))

pub totals-by : (cs : List Client) → totals cs ≡ totals_by (is_from 0) cs
totals-by cs =
    sym (ap (λ xs. totals_of (all_holdings xs)) (filter_all cs)) ∙ totals_of-by (is_from 0) cs

pub share_of-by : (worker : ℕ) (cs : List Client) → share_of worker cs ≡ totals_by (is_of worker) cs
share_of-by worker cs = totals_of-by (is_of worker) cs

-- The clients of a worker, and of those behind it.

passing_split : (w : ℕ) (m : Client → ℕ) (c : Client)
    → passing (is_from w) m c ≡ passing (is_of w) m c + passing (is_from (suc w)) m c
passing_split w m c = step (c.worker == w) refl
  where
    other : (b : Bool) → nat_le (suc w) c.worker ≡ b → (c.worker == w) ≡ false
        → passing (is_from w) m c ≡ passing (is_of w) m c + passing (is_from (suc w)) m c
    other true is ne =
        let from : nat_le w c.worker ≡ true = grind (arith, nat_tests) in
        rw (is, ne, from) (omega arith)
    other false is ne =
        let before : nat_le w c.worker ≡ false = grind (arith, nat_tests) in
        rw (is, ne, before) refl

    step : (b : Bool) → (c.worker == w) ≡ b
        → passing (is_from w) m c ≡ passing (is_of w) m c + passing (is_from (suc w)) m c
    step true is =
        let from : nat_le w c.worker ≡ true = grind (arith, nat_tests) in
        let last : nat_le (suc w) c.worker ≡ false = grind (arith, nat_tests) in
        rw (is, from, last) (omega arith)
    step false is = other (nat_le (suc w) c.worker) refl is

sum_split : (w : ℕ) (m : Client → ℕ) (cs : List Client) → sum_by (passing (is_from w) m) cs
    ≡ sum_by (passing (is_of w) m) cs + sum_by (passing (is_from (suc w)) m) cs
sum_split w m [] = refl
sum_split w m (c ∷ cs) =
    let a = sum_by-cons (passing (is_from w) m) c cs in
    let b = sum_by-cons (passing (is_of w) m) c cs in
    let d = sum_by-cons (passing (is_from (suc w)) m) c cs in
    omega (arith, passing_split w m c, sum_split w m cs)

pub totals_split : (w : ℕ) (cs : List Client)
    → totals_by (is_from w) cs
    ≡ add_totals (totals_by (is_of w) cs) (totals_by (is_from (suc w)) cs)
totals_split w cs =
    same_totals _ _ _ _ _ _
    (sum_split w count_of cs) (sum_split w frames_of cs) (sum_split w sum_lo_of cs)

sum_behind : (w : ℕ) (m : Client → ℕ) (cs : List Client) → AllByRecursion (IsClient w) cs
    → sum_by (passing (is_from w) m) cs ≡ 0
sum_behind w m [] each = refl
sum_behind w m (c ∷ cs) each =
    let lt = each.0.worker in
    let none : nat_le w c.worker ≡ false = grind (arith, nat_tests) in
    let now : passing (is_from w) m c ≡ 0 = rw none refl in
    let a = sum_by-cons (passing (is_from w) m) c cs in
    omega (arith, sum_behind w m cs each.1)

-- behind the last worker there is no client
pub totals_behind : (w : ℕ) (cs : List Client) → AllByRecursion (IsClient w) cs
    → totals_by (is_from w) cs ≡ no_totals
totals_behind w cs each =
    same_totals _ _ _ _ _ _
    (sum_behind w count_of cs each) (sum_behind w frames_of cs each)
    (sum_behind w sum_lo_of cs each)

-- A sum over the clients, as one of them changes.

pub sum_changed : (m : Client → ℕ) (id : ℕ) (f : Client → Client) (c : Client) (cs : List Client) → client_with id cs ≡ Some c
    → sum_by m (change_client id f cs) + m c ≡ sum_by m cs + m (f c)
sum_changed m id f c [] q = absurd (let bad : None ≡ Some c = q in cc)
sum_changed m id f c (x ∷ cs) q = step (has_id id x) q (λ later. sum_changed m id f c cs later)
  where
    step : (b : Bool) → cond b (Some x) (client_with id cs) ≡ Some c → (client_with id cs ≡ Some c → sum_by m (change_client id f cs) + m c ≡ sum_by m cs + m (f c))
        → sum_by m (cond b (f x ∷ cs) (x ∷ change_client id f cs)) + m c ≡ sum_by m (x ∷ cs) + m (f c)
    step true is ih =
        let mine : x ≡ c = cc in
        rw mine (let a = sum_by-cons m (f c) cs in let b = sum_by-cons m c cs in omega arith)
    step false is ih =
        let later = ih is in
        let a = sum_by-cons m x (change_client id f cs) in let b = sum_by-cons m x cs in omega arith

pub sum_forgotten : (m : Client → ℕ) (id : ℕ) (c : Client) (cs : List Client) → client_with id cs ≡ Some c
    → sum_by m (without_client id cs) + m c ≡ sum_by m cs
sum_forgotten m id c [] q = absurd (let bad : None ≡ Some c = q in cc)
sum_forgotten m id c (x ∷ cs) q = step (has_id id x) q (λ later. sum_forgotten m id c cs later)
  where
    step : (b : Bool) → cond b (Some x) (client_with id cs) ≡ Some c → (client_with id cs ≡ Some c → sum_by m (without_client id cs) + m c ≡ sum_by m cs)
        → sum_by m (cond b cs (x ∷ without_client id cs)) + m c ≡ sum_by m (x ∷ cs)
    step true is ih =
        let mine : x ≡ c = cc in
        rw mine (let b = sum_by-cons m c cs in omega arith)
    step false is ih =
        let later = ih is in
        let a = sum_by-cons m x (without_client id cs) in let b = sum_by-cons m x cs in omega arith

-- no term changes
pub sum_kept : (m : Client → ℕ) (id : ℕ) (f : Client → Client) (c : Client) (cs : List Client) → client_with id cs ≡ Some c → m (f c) ≡ m c
    → sum_by m (change_client id f cs) ≡ sum_by m cs
sum_kept m id f c cs q same = let e = sum_changed m id f c cs q in omega arith

-- Sums over holdings.

pub sum_inserted : (g : Frames → ℕ) (r : Frames) (hs : List Frames) → sum_by g (insert_rising r hs) ≡ sum_by g hs + g r
sum_inserted g r [] = let a = sum_by-cons g r [] in omega arith
sum_inserted g r (x ∷ hs) = step (nat_lt r.lo x.lo) (sum_inserted g r hs)
  where
    step : (b : Bool) → sum_by g (insert_rising r hs) ≡ sum_by g hs + g r → sum_by g (cond b (r ∷ x ∷ hs) (x ∷ insert_rising r hs)) ≡ sum_by g (x ∷ hs) + g r
    step true ih = let a = sum_by-cons g r (x ∷ hs) in omega arith
    step false ih = let a = sum_by-cons g x (insert_rising r hs) in let b = sum_by-cons g x hs in omega arith

pub sum_removed : (g : Frames → ℕ) (lo : ℕ) (r : Frames) (hs : List Frames) → find (begins_at lo) hs ≡ Some r → sum_by g (remove_at lo hs) + g r ≡ sum_by g hs
sum_removed g lo r [] q = absurd (let bad : None ≡ Some r = q in cc)
sum_removed g lo r (x ∷ hs) q = step (begins_at lo x) q (λ later. sum_removed g lo r hs later)
  where
    step : (b : Bool) → cond b (Some x) (find (begins_at lo) hs) ≡ Some r → (find (begins_at lo) hs ≡ Some r → sum_by g (remove_at lo hs) + g r ≡ sum_by g hs)
        → sum_by g (cond b hs (x ∷ remove_at lo hs)) + g r ≡ sum_by g (x ∷ hs)
    step true is ih = let mine : x ≡ r = cc in rw mine (let b = sum_by-cons g r hs in omega arith)
    step false is ih = let later = ih is in let a = sum_by-cons g x (remove_at lo hs) in let b = sum_by-cons g x hs in omega arith

pub length_removed : (lo : ℕ) (r : Frames) (hs : List Frames) → find (begins_at lo) hs ≡ Some r → length (remove_at lo hs) + 1 ≡ length hs
length_removed lo r [] q = absurd (let bad : None ≡ Some r = q in cc)
length_removed lo r (x ∷ hs) q = step (begins_at lo x) q (λ later. length_removed lo r hs later)
  where
    step : (b : Bool) → cond b (Some x) (find (begins_at lo) hs) ≡ Some r → (find (begins_at lo) hs ≡ Some r → length (remove_at lo hs) + 1 ≡ length hs)
        → length (cond b hs (x ∷ remove_at lo hs)) + 1 ≡ suc (length hs)
    step true is ih = let e : length hs + 1 ≡ suc (length hs) = omega arith in e
    step false is ih = let later = ih is in let e : suc (length (remove_at lo hs)) + 1 ≡ suc (length hs) = omega arith in e

-- The totals over the clients that pass, as one changes.

-- where each sum keeps its terms, the totals stay
pub totals_kept : (p : Client → Bool) (id : ℕ) (f : Client → Client) (c : Client) (cs : List Client) → client_with id cs ≡ Some c
    → p (f c) ≡ p c → (f c).holdings ≡ c.holdings → totals_by p (change_client id f cs) ≡ totals_by p cs
totals_kept p id f c cs q tests holdings =
    same_totals _ _ _ _ _ _
    (sum_kept (passing p count_of) id f c cs q (rw (tests, holdings) refl))
    (sum_kept (passing p frames_of) id f c cs q (rw (tests, holdings) refl))
    (sum_kept (passing p sum_lo_of) id f c cs q (rw (tests, holdings) refl))

-- a client that doesn't pass changes nothing
pub totals_passed_by : (p : Client → Bool) (id : ℕ) (f : Client → Client) (c : Client) (cs : List Client) → client_with id cs ≡ Some c
    → p (f c) ≡ false → p c ≡ false → totals_by p (change_client id f cs) ≡ totals_by p cs
totals_passed_by p id f c cs q after before =
    same_totals _ _ _ _ _ _
    (sum_kept (passing p count_of) id f c cs q (rw (after, before) refl))
    (sum_kept (passing p frames_of) id f c cs q (rw (after, before) refl))
    (sum_kept (passing p sum_lo_of) id f c cs q (rw (after, before) refl))

passing_given : (p : Client → Bool) (m : Client → ℕ) (g : ℕ) (id : ℕ) (f : Client → Client) (c : Client) (cs : List Client) → client_with id cs ≡ Some c
    → p (f c) ≡ true → p c ≡ true → m (f c) ≡ m c + g → sum_by (passing p m) (change_client id f cs) ≡ sum_by (passing p m) cs + g
passing_given p m g id f c cs q after before more =
    let e = sum_changed (passing p m) id f c cs q in
    let e' : sum_by (passing p m) (change_client id f cs) + m c ≡ sum_by (passing p m) cs + m (f c) = rw (after, before) at e in
    omega arith

passing_taken : (p : Client → Bool) (m : Client → ℕ) (g : ℕ) (id : ℕ) (f : Client → Client) (c : Client) (cs : List Client) → client_with id cs ≡ Some c
    → p (f c) ≡ true → p c ≡ true → m (f c) + g ≡ m c → sum_by (passing p m) (change_client id f cs) + g ≡ sum_by (passing p m) cs
passing_taken p m g id f c cs q after before less =
    let e = sum_changed (passing p m) id f c cs q in
    let e' : sum_by (passing p m) (change_client id f cs) + m c ≡ sum_by (passing p m) cs + m (f c) = rw (after, before) at e in
    omega arith

-- one holding more, number by number
numbers_with_one : (r : Frames) (t : Totals) → ◌≡◌ {A = Totals} (record { count = t.count + 1; frames = t.frames + r.len; sum_lo = t.sum_lo + r.lo }) (with_one r t)
numbers_with_one r t =
    let len : r.len ≡ sum_by (λ (x : Frames). x.len) (r ∷ []) = omega (arith, sum_by-cons (λ (x : Frames). x.len) r []) in
    let lo : r.lo ≡ sum_by (λ (x : Frames). x.lo) (r ∷ []) = omega (arith, sum_by-cons (λ (x : Frames). x.lo) r []) in
    same_totals _ _ _ _ _ _ refl (ap (λ n. t.frames + n) len) (ap (λ n. t.sum_lo + n) lo)

pub totals_given : (p : Client → Bool) (id : ℕ) (r : Frames) (c : Client) (cs : List Client) → client_with id cs ≡ Some c
    → p (with_holding r c) ≡ true → p c ≡ true → totals_by p (change_client id (with_holding r) cs) ≡ with_one r (totals_by p cs)
totals_given p id r c cs q after before =
    same_totals _ _ _ _ _ _
    (passing_given p count_of 1 id (with_holding r) c cs q after before (length-insert_rising r c.holdings))
    (passing_given p frames_of r.len id (with_holding r) c cs q after before (sum_inserted (λ x. x.len) r c.holdings))
    (passing_given p sum_lo_of r.lo id (with_holding r) c cs q after before (sum_inserted (λ x. x.lo) r c.holdings))
    ∙ numbers_with_one r (totals_by p cs)

-- each of three sums has the holding that leaves
pub record Leaves (r : Frames) (old new : Totals) : Type 0 where
  pub count : new.count + 1 ≡ old.count
  pub frames : new.frames + r.len ≡ old.frames
  pub sum_lo : new.sum_lo + r.lo ≡ old.sum_lo

pub totals_taken : (p : Client → Bool) (id lo : ℕ) (r : Frames) (c : Client) (cs : List Client) → client_with id cs ≡ Some c → find (begins_at lo) c.holdings ≡ Some r
    → p (without_holding lo c) ≡ true → p c ≡ true → Leaves r (totals_by p cs) (totals_by p (change_client id (without_holding lo) cs))
totals_taken p id lo r c cs q held after before = record {
  count = passing_taken p count_of 1 id (without_holding lo) c cs q after before (length_removed lo r c.holdings held);
  frames = passing_taken p frames_of r.len id (without_holding lo) c cs q after before (sum_removed (λ x. x.len) lo r c.holdings held);
  sum_lo = passing_taken p sum_lo_of r.lo id (without_holding lo) c cs q after before (sum_removed (λ x. x.lo) lo r c.holdings held);
}

pub Leaves-include : (r : Frames) (old new : Totals) → Leaves r old new → Include r old
Leaves-include r old new h = record { count = omega (arith, h.count); frames = omega (arith, h.frames); sum_lo = omega (arith, h.sum_lo) }

pub Leaves-without : (r : Frames) (old new : Totals) → Leaves r old new → new ≡ without_one r old
Leaves-without r old new h = same_totals _ _ _ _ _ _ (omega (arith, h.count)) (omega (arith, h.frames)) (omega (arith, h.sum_lo))

passing_forgotten : (p : Client → Bool) (m : Client → ℕ) (id : ℕ) (c : Client) (cs : List Client) → client_with id cs ≡ Some c → m c ≡ 0
    → sum_by (passing p m) (without_client id cs) ≡ sum_by (passing p m) cs
passing_forgotten p m id c cs q none = step (p c) refl
  where
    step : (b : Bool) → p c ≡ b → sum_by (passing p m) (without_client id cs) ≡ sum_by (passing p m) cs
    step true is = let e : sum_by (passing p m) (without_client id cs) + m c ≡ sum_by (passing p m) cs = rw is at (sum_forgotten (passing p m) id c cs q) in omega arith
    step false is = let e : sum_by (passing p m) (without_client id cs) + 0 ≡ sum_by (passing p m) cs = rw is at (sum_forgotten (passing p m) id c cs q) in omega arith

pub totals_forgotten : (p : Client → Bool) (id : ℕ) (c : Client) (cs : List Client) → client_with id cs ≡ Some c → c.holdings ≡ []
    → totals_by p (without_client id cs) ≡ totals_by p cs
totals_forgotten p id c cs q none =
    same_totals _ _ _ _ _ _
    (passing_forgotten p count_of id c cs q (ap length none))
    (passing_forgotten p frames_of id c cs q (ap (λ hs. sum_by (λ r. r.len) hs) none))
    (passing_forgotten p sum_lo_of id c cs q (ap (λ hs. sum_by (λ r. r.lo) hs) none))

passing_push : (p : Client → Bool) (m : Client → ℕ) (c : Client) (cs : List Client) → m c ≡ 0 → sum_by (passing p m) (cs ++ c ∷ []) ≡ sum_by (passing p m) cs
passing_push p m c cs none =
    let e = sum_by-append (passing p m) cs (c ∷ []) in
    let f = sum_by-cons (passing p m) c [] in
    let z = step (p c) in
    omega arith
  where
    step : (b : Bool) → cond b (m c) 0 ≡ 0
    step true = none
    step false = refl

pub totals_push : (p : Client → Bool) (c : Client) (cs : List Client) → c.holdings ≡ [] → totals_by p (cs ++ c ∷ []) ≡ totals_by p cs
totals_push p c cs none =
    same_totals _ _ _ _ _ _
    (passing_push p count_of c cs (ap length none))
    (passing_push p frames_of c cs (ap (λ hs. sum_by (λ r. r.len) hs) none))
    (passing_push p sum_lo_of c cs (ap (λ hs. sum_by (λ r. r.lo) hs) none))

-- How large the sums can be.

pub sum_le : {X : Type 0} (m : X → ℕ) (most : ℕ) (xs : List X) → AllByRecursion (λ x. m x ≤ most) xs → sum_by m xs ≤ length xs * most
sum_le m most [] h = omega arith
sum_le m most (x ∷ xs) h =
    let a = sum_by-cons m x xs in
    let b = sum_le m most xs h.1 in
    let c : suc (length xs) * most ≡ most + length xs * most = search arith in
    omega (arith, h.0)

passing_le : (p : Client → Bool) (m : Client → ℕ) (most : ℕ) (cs : List Client) → AllByRecursion (λ c. m c ≤ most) cs → AllByRecursion (λ c. passing p m c ≤ most) cs
passing_le p m most [] h = tt
passing_le p m most (c ∷ cs) h = (step (p c), passing_le p m most cs h.1)
  where
    step : (b : Bool) → cond b (m c) 0 ≤ most
    step true = h.0
    step false = omega arith

each_counts : (cs : List Client) → AllByRecursion (IsClient 16) cs → AllByRecursion (λ c. count_of c ≤ 4096) cs
each_counts [] h = tt
each_counts (c ∷ cs) h = (h.0.room, each_counts cs h.1)

each_frames : (cs : List Client) → AllByRecursion (IsClient 16) cs → AllByRecursion (λ c. frames_of c ≤ 2 ^ 32) cs
each_frames [] h = tt
each_frames (c ∷ cs) h =
    let e : frames_of c ≤ length c.holdings * 1048576 = sum_le (λ r. r.len) 1048576 c.holdings h.0.sized in
    (omega (arith, h.0.room), each_frames cs h.1)

low_first : (hs : List Frames) → AllByRecursion IsBelowTop hs → AllByRecursion (λ r. r.lo ≤ 2 ^ 40) hs
low_first [] h = tt
low_first (r ∷ hs) h = (omega (arith, h.0), low_first hs h.1)

each_sum_lo : (cs : List Client) → AllByRecursion (IsClient 16) cs → AllByRecursion HoldsLow cs → AllByRecursion (λ c. sum_lo_of c ≤ 2 ^ 52) cs
each_sum_lo [] h low = tt
each_sum_lo (c ∷ cs) h low =
    let e : sum_lo_of c ≤ length c.holdings * (2 ^ 40) = sum_le (λ r. r.lo) (2 ^ 40) c.holdings (low_first c.holdings low.0) in
    (omega (arith, h.0.room), each_sum_lo cs h.1 low.1)

pub totals_have_room : (p : Client → Bool) (r : Registry) → IsRegistry r → HaveRoom (totals_by p r.clients)
totals_have_room p r h =
    let a : sum_by (passing p count_of) r.clients ≤ length r.clients * 4096 = sum_le (passing p count_of) 4096 r.clients (passing_le p count_of 4096 r.clients (each_counts r.clients h.clients.each)) in
    let b : sum_by (passing p frames_of) r.clients ≤ length r.clients * (2 ^ 32) = sum_le (passing p frames_of) (2 ^ 32) r.clients (passing_le p frames_of (2 ^ 32) r.clients (each_frames r.clients h.clients.each)) in
    let c : sum_by (passing p sum_lo_of) r.clients ≤ length r.clients * (2 ^ 52) = sum_le (passing p sum_lo_of) (2 ^ 52) r.clients (passing_le p sum_lo_of (2 ^ 52) r.clients (each_sum_lo r.clients h.clients.each h.low)) in
    let few : length r.clients ≤ 1024 = h.clients.room in
    record { count = omega arith; frames = omega arith; sum_lo = omega arith }
