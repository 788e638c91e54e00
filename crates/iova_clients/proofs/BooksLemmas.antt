-- The sums that are kept, as a client changes, comes or goes.
use Rattle.std.proofs.Common.{◌≡◌, ◌≢◌, ℕ, suc, ◌+◌, ◌<◌, ◌==◌, Bool, true, false, List, [], ◌∷◌, ◌++◌, length, Some, find, refl, sym, ap, ◌∙◌, arith, length-set}
use Rattle.std.specs.List.{AllByRecursion}
use Rattle.std.proofs.lemmas.List.{get_or-set_same, get_or-set_other}
use Rattle.std.proofs.lemmas.Bool.Decides.{nat_tests}
use Rattle.iova_range.specs.Frames.{Frames}
use Rattle.iova_model.specs.declared.totals.Totals.{Totals}
use Rattle.iova_model.specs.Clients.{Client, client_with, change_client, without_client, begins_at, with_holding, without_holding, totals, share_of, no_totals}
use Rattle.iova_model.specs.Valid.{IsClient}
use Rattle.iova_model.specs.Effects.{add_totals}
use Rattle.iova_clients.specs.declared.sums.Sums.{Sums}
use Rattle.iova_clients.specs.Registry.{Registry, IsRegistry}
use Rattle.iova_clients.specs.Sums.{added, share_at, with_share, with_one, without_one, HaveRoom, Include}
use Rattle.iova_clients.specs.Books.{AreSumsOf}
use Rattle.iova_clients.proofs.TotalsLemmas.{totals_by, is_of, is_from, totals-by, share_of-by, totals_split, totals_behind, totals_given, totals_taken, totals_kept, totals_passed_by, totals_forgotten, totals_push, totals_have_room, Leaves-include, Leaves-without}

-- each worker's totals are as they were
sums_same : (cs ds : List Client) (s : Sums)
    → ((w : ℕ) → totals_by (is_of w) ds ≡ totals_by (is_of w) cs)
    → AreSumsOf cs s → AreSumsOf ds s
sums_same cs ds s each h = record {
  workers = h.workers;
  shares = λ w lt. h.shares w lt ∙ (share_of-by w cs ∙ (sym (each w) ∙ sym (share_of-by w ds)));
}

-- one worker's totals change
sums_moved : (change : Totals → Totals) (worker : ℕ) (cs ds : List Client) (s t : Sums) → worker < 16
    → t.shares ≡ with_share worker change s.shares
    → totals_by (is_of worker) ds ≡ change (totals_by (is_of worker) cs)
    → ((w : ℕ) → w ≢ worker → totals_by (is_of w) ds ≡ totals_by (is_of w) cs)
    → AreSumsOf cs s → AreSumsOf ds t
sums_moved change worker cs ds s t lt moved mine others h = record {
  workers = ap length moved
      ∙ (length-set s.shares worker (change (share_at worker s.shares)) ∙ h.workers);
  shares = λ w w_lt. ap (share_at w) moved ∙ step w w_lt (w == worker) refl;
}
  where
    step : (w : ℕ) → w < 16 → (b : Bool) → (w == worker) ≡ b → share_at w (with_share worker change s.shares) ≡ share_of w ds
    step w w_lt true is =
        let e : w ≡ worker = grind (arith, nat_tests) in
        rw e (get_or-set_same s.shares worker (change (share_at worker s.shares)) no_totals (omega (arith, h.workers))
        ∙ (ap change (h.shares worker lt ∙ share_of-by worker cs) ∙ (sym mine ∙ sym (share_of-by worker ds))))
    step w w_lt false is =
        let ne : w ≢ worker = grind (arith, nat_tests) in
        get_or-set_other s.shares worker w (change (share_at worker s.shares)) no_totals ne
        ∙ (h.shares w w_lt ∙ (share_of-by w cs ∙ (sym (others w ne) ∙ sym (share_of-by w ds))))

other_worker : (c : Client) (w : ℕ) → w ≢ c.worker → is_of w c ≡ false
other_worker c w ne = grind (arith, nat_tests)

same_worker : (c : Client) → is_of c.worker c ≡ true
same_worker c = grind (arith, nat_tests)

pub sums_kept : (id : ℕ) (f : Client → Client) (c : Client) (cs : List Client) (s : Sums) → client_with id cs ≡ Some c
    → (f c).worker ≡ c.worker → (f c).holdings ≡ c.holdings → AreSumsOf cs s → AreSumsOf (change_client id f cs) s
sums_kept id f c cs s q worker holdings h =
    sums_same cs (change_client id f cs) s
    (λ w. totals_kept (is_of w) id f c cs q (ap (λ x. x == w) worker) holdings) h

pub sums_given : (id : ℕ) (r : Frames) (c : Client) (cs : List Client) (s t : Sums) → client_with id cs ≡ Some c → c.worker < 16
    → t.shares ≡ with_share c.worker (with_one r) s.shares
    → AreSumsOf cs s → AreSumsOf (change_client id (with_holding r) cs) t
sums_given id r c cs s t q lt moved h =
    sums_moved (with_one r) c.worker cs (change_client id (with_holding r) cs) s t lt moved
    (totals_given (is_of c.worker) id r c cs q (same_worker c) (same_worker c))
    (λ w ne. totals_passed_by (is_of w) id (with_holding r) c cs q (other_worker c w ne) (other_worker c w ne))
    h

pub sums_taken : (id lo : ℕ) (r : Frames) (c : Client) (cs : List Client) (s t : Sums) → client_with id cs ≡ Some c → c.worker < 16
    → find (begins_at lo) c.holdings ≡ Some r
    → t.shares ≡ with_share c.worker (without_one r) s.shares
    → AreSumsOf cs s → AreSumsOf (change_client id (without_holding lo) cs) t
sums_taken id lo r c cs s t q lt held moved h =
    sums_moved (without_one r) c.worker cs (change_client id (without_holding lo) cs) s t lt moved
    (Leaves-without r _ _ (totals_taken (is_of c.worker) id lo r c cs q held (same_worker c) (same_worker c)))
    (λ w ne. totals_passed_by (is_of w) id (without_holding lo) c cs q (other_worker c w ne) (other_worker c w ne))
    h

pub sums_forgotten : (id : ℕ) (c : Client) (cs : List Client) (s : Sums) → client_with id cs ≡ Some c → c.holdings ≡ [] → AreSumsOf cs s → AreSumsOf (without_client id cs) s
sums_forgotten id c cs s q none h =
    sums_same cs (without_client id cs) s (λ w. totals_forgotten (is_of w) id c cs q none) h

pub sums_push : (c : Client) (cs : List Client) (s : Sums) → c.holdings ≡ [] → AreSumsOf cs s → AreSumsOf (cs ++ c ∷ []) s
sums_push c cs s none h =
    sums_same cs (cs ++ c ∷ []) s (λ w. totals_push (is_of w) c cs none) h

-- What adding and taking away ask of the sums.

pub share_has_room : (r : Registry) (s : Sums) (w : ℕ) → IsRegistry r → AreSumsOf r.clients s → w < 16 → HaveRoom (share_at w s.shares)
share_has_room r s w h sums lt = rw (sums.shares w lt ∙ share_of-by w r.clients) (totals_have_room (is_of w) r h)

pub share_includes : (id lo : ℕ) (r : Frames) (c : Client) (cs : List Client) (s : Sums) → client_with id cs ≡ Some c → find (begins_at lo) c.holdings ≡ Some r
    → c.worker < 16 → AreSumsOf cs s → Include r (share_at c.worker s.shares)
share_includes id lo r c cs s q held lt sums =
    rw (sums.shares c.worker lt ∙ share_of-by c.worker cs)
    (Leaves-include r _ (totals_by (is_of c.worker) (change_client id (without_holding lo) cs)) (totals_taken (is_of c.worker) id lo r c cs q held (same_worker c) (same_worker c)))

-- The shares, added up.

plus_zero : (w : ℕ) → w + 0 ≡ w
plus_zero w = omega arith

zero_plus : (w : ℕ) → w ≡ 0 + w
zero_plus w = omega arith

plus_suc : (w n : ℕ) → w + suc n ≡ suc w + n
plus_suc w n = omega arith

-- the totals in a list are the shares of the workers from this one on, up to the last: added up,
-- they are the totals over the clients of these workers
added_from : (w : ℕ) (ts : List Totals) (cs : List Client)
    → AllByRecursion (IsClient (w + length ts)) cs
    → ((n : ℕ) → n < length ts → share_at n ts ≡ totals_by (is_of (w + n)) cs)
    → added ts ≡ totals_by (is_from w) cs
added_from w [] cs each shares = sym (totals_behind w cs (rw (plus_zero w) at each))
added_from w (t ∷ ts) cs each shares =
    let first : t ≡ totals_by (is_of w) cs = rw (plus_zero w) at (shares 0 (omega arith)) in
    let later =
    added_from (suc w) ts cs (rw (plus_suc w (length ts)) at each)
    (λ n lt. shares (suc n) (omega arith) ∙ ap (λ v. totals_by (is_of v) cs) (plus_suc w n)) in
    ap (λ x. add_totals x (added ts)) first
    ∙ (ap (add_totals (totals_by (is_of w) cs)) later ∙ sym (totals_split w cs))

pub shares_added : (r : Registry) (s : Sums) → IsRegistry r → AreSumsOf r.clients s
    → added s.shares ≡ totals r.clients
shares_added r s h sums =
    let share = λ (w : ℕ) (lt : w < length s.shares).
    sums.shares w (omega (arith, sums.workers))
    ∙ (share_of-by w r.clients ∙ ap (λ v. totals_by (is_of v) r.clients) (zero_plus w)) in
    added_from 0 s.shares r.clients (rw sums.workers h.clients.each) share
    ∙ sym (totals-by r.clients)

pub shares_have_room : (r : Registry) (s : Sums) → IsRegistry r → AreSumsOf r.clients s
    → HaveRoom (added s.shares)
shares_have_room r s h sums =
    rw (shares_added r s h sums ∙ totals-by r.clients) (totals_have_room (is_from 0) r h)
