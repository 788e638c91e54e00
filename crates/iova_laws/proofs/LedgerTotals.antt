-- What clients hold: how many holdings, frames, and the sum of the first frames.
use Rattle.std.proofs.Common.{ℕ, zero, suc, ◌≡◌, ◌<◌, ◌≤◌, ◌==◌, Bool, true, false, List, [], ◌∷◌, ◌++◌, Some, refl, sym, ap, ◌∙◌, arith, append_assoc, length-append}
use Rattle.std.specs.Prelude.{nat_lt, if◌then◌else◌, find, filter}
use Rattle.std.specs.List.{AllByRecursion}
use Rattle.std.proofs.lemmas.Bool.{cond_both}
use Rattle.std.proofs.lemmas.Bool.Decides.{nat_tests}
use Rattle.std.proofs.lemmas.List.Sums.{sum_by-append}
use Rattle.iova_range.specs.Frames.{Frames}
use Rattle.iova_model.specs.declared.totals.Totals.{Totals}
use Rattle.iova_model.specs.Clients.{Client, begins_at, insert_rising, remove_at, totals_of, all_holdings, totals, share_of}
use Rattle.iova_model.specs.Valid.{IsClient}
use Rattle.iova_model.specs.Effects.{add_totals, shares_below}
use Rattle.iova_model.specs.Laws.{TotalsAreShares}

-- totals are equal by their parts
totals_same : (a b : Totals) → a.count ≡ b.count → a.frames ≡ b.frames → a.sum_lo ≡ b.sum_lo → a ≡ b
totals_same a b e f g =
    let with_count : ℕ → Totals = λ x. record { count = x; frames = a.frames; sum_lo = a.sum_lo } in
    let with_frames : ℕ → Totals = λ x. record { count = b.count; frames = x; sum_lo = a.sum_lo } in
    let with_sum : ℕ → Totals = λ x. record { count = b.count; frames = b.frames; sum_lo = x } in
    ap with_count e ∙ (ap with_frames f ∙ ap with_sum g)

-- the totals of two lists
totals_of-append : (rs qs : List Frames) → totals_of (rs ++ qs) ≡ add_totals (totals_of rs) (totals_of qs)
totals_of-append rs qs = totals_same _ _ (length-append rs qs) (sum_by-append (λ r. r.len) rs qs) (sum_by-append (λ r. r.lo) rs qs)

-- equal totals have equal sums
add_totals_both : (a a' b b' : Totals) → a ≡ a' → b ≡ b' → add_totals a b ≡ add_totals a' b'
add_totals_both a a' b b' e f = ap (λ t. add_totals t b) e ∙ ap (λ t. add_totals a' t) f

-- three totals are added in any grouping
add_totals_assoc : (a b c : Totals) → add_totals (add_totals a b) c ≡ add_totals a (add_totals b c)
add_totals_assoc a b c = totals_same _ _ (omega arith) (omega arith) (omega arith)

-- the first two of three change places
add_totals_swap : (a b c : Totals) → add_totals a (add_totals b c) ≡ add_totals b (add_totals a c)
add_totals_swap a b c = totals_same _ _ (omega arith) (omega arith) (omega arith)

-- and so do the last two
add_totals_last : (a b c : Totals) → add_totals a (add_totals b c) ≡ add_totals (add_totals a c) b
add_totals_last a b c = totals_same _ _ (omega arith) (omega arith) (omega arith)

-- The totals are the shares.

-- a worker's own clients
abbrev own : ℕ → Client → Bool
own w c = c.worker == w

-- the share of a worker, with one client more
share_cons : (w : ℕ) (c : Client) (cs : List Client) (b : Bool) → own w c ≡ b → share_of w (c ∷ cs) ≡ (if b then add_totals (totals_of c.holdings) (share_of w cs) else share_of w cs)
share_cons w c cs true is = rw is (totals_of-append c.holdings (all_holdings (filter (own w) cs)))
share_cons w c cs false is = rw is refl

-- the shares without the new client's worker among them
shares_cons_past : (workers : ℕ) (c : Client) (cs : List Client) → workers ≤ c.worker → shares_below workers (c ∷ cs) ≡ shares_below workers cs
shares_cons_past zero c cs le = refl
shares_cons_past (suc w) c cs le =
    let other : own w c ≡ false = grind (arith, nat_tests) in
    let before = shares_cons_past w c cs (omega arith) in
    let last = share_cons w c cs false other in
    cc

-- the last worker is the new client's, or an earlier one is
shares_cons_step : (w : ℕ) (c : Client) (cs : List Client) (b : Bool) → own w c ≡ b → c.worker < suc w → (c.worker < w → shares_below w (c ∷ cs) ≡ add_totals (totals_of c.holdings) (shares_below w cs))
    → shares_below (suc w) (c ∷ cs) ≡ add_totals (totals_of c.holdings) (shares_below (suc w) cs)
shares_cons_step w c cs true is lt less =
    let past = shares_cons_past w c cs (grind (arith, nat_tests)) in
    let mine = share_cons w c cs true is in
    add_totals_both _ _ _ _ past mine ∙ add_totals_swap (shares_below w cs) (totals_of c.holdings) (share_of w cs)
shares_cons_step w c cs false is lt less =
    let below = less (grind (arith, nat_tests)) in
    let others = share_cons w c cs false is in
    add_totals_both _ _ _ _ below others ∙ add_totals_assoc (totals_of c.holdings) (shares_below w cs) (share_of w cs)

-- and with it
shares_cons : (workers : ℕ) (c : Client) (cs : List Client) → c.worker < workers → shares_below workers (c ∷ cs) ≡ add_totals (totals_of c.holdings) (shares_below workers cs)
shares_cons zero c cs lt = absurd (omega arith)
shares_cons (suc w) c cs lt = shares_cons_step w c cs (own w c) refl lt (λ less. shares_cons w c cs less)

-- no client, no share
shares_none : (workers : ℕ) → shares_below workers [] ≡ totals_of []
shares_none zero = refl
shares_none (suc w) = rw (shares_none w) refl

-- the shares of all workers, added, are the totals
shares_all : (workers : ℕ) (cs : List Client) → AllByRecursion (IsClient workers) cs → totals cs ≡ shares_below workers cs
shares_all workers [] each = sym (shares_none workers)
shares_all workers (c ∷ cs) each =
    let head = totals_of-append c.holdings (all_holdings cs) in
    let tail = shares_all workers cs each.1 in
    let last = shares_cons workers c cs each.0.worker in
    cc

-- so it is in a valid state
pub totals_are_shares : TotalsAreShares
totals_are_shares = λ s valid. shares_all s.workers s.clients valid.clients.each

-- One range more.

-- the new list has the range, and is else the old one
pub record HasMore (r : Frames) (old new : List Frames) : Type 0 where
  pub before : List Frames
  pub later : List Frames
  pub was : old ≡ before ++ later
  pub is : new ≡ before ++ r ∷ later

-- with one range before
more_cons : (r x : Frames) (old new : List Frames) → HasMore r old new → HasMore r (x ∷ old) (x ∷ new)
more_cons r x old new h = record { before = x ∷ h.before; later = h.later; was = ap (λ l. x ∷ l) h.was; is = ap (λ l. x ∷ l) h.is }

-- the totals grow by the range
pub totals_more : (r : Frames) (old new : List Frames) → HasMore r old new → totals_of new ≡ add_totals (totals_of old) (totals_of (r ∷ []))
totals_more r old new h =
    let all = totals_of-append h.before (r ∷ h.later) in
    let one : totals_of (r ∷ h.later) ≡ add_totals (totals_of (r ∷ [])) (totals_of h.later) = totals_of-append (r ∷ []) h.later in
    let rest : totals_of old ≡ add_totals (totals_of h.before) (totals_of h.later) = ap totals_of h.was ∙ totals_of-append h.before h.later in
    ap totals_of h.is
    ∙ (all
    ∙ (ap (λ t. add_totals (totals_of h.before) t) one
    ∙ (add_totals_last (totals_of h.before) (totals_of (r ∷ [])) (totals_of h.later) ∙ ap (λ t. add_totals t (totals_of (r ∷ []))) (sym rest))))

-- a range that is inserted
pub more-insert : (r : Frames) (rs : List Frames) → HasMore r rs (insert_rising r rs)
more-insert r [] = record { before = []; later = []; was = refl; is = refl }
more-insert r (x ∷ xs) =
    cond_both (nat_lt r.lo x.lo) (r ∷ x ∷ xs) (x ∷ insert_rising r xs) (λ l. HasMore r (x ∷ xs) l) (λ e. record { before = []; later = x ∷ xs; was = refl; is = refl })
    (λ e. more_cons r x xs (insert_rising r xs) (more-insert r xs))

-- the first range begins there, or it stays
more-remove_step : (lo : ℕ) (r x : Frames) (xs : List Frames) (b : Bool) → begins_at lo x ≡ b → find (begins_at lo) (x ∷ xs) ≡ Some r → (find (begins_at lo) xs ≡ Some r → HasMore r (remove_at lo xs) xs)
    → HasMore r (remove_at lo (x ∷ xs)) (x ∷ xs)
more-remove_step lo r x xs true here is further =
    let found = rw here at is in
    let one : x ≡ r = cc (found) in
    record { before = []; later = xs; was = rw here refl; is = ap (λ y. y ∷ xs) one }
more-remove_step lo r x xs false here is further = rw here (more_cons r x (remove_at lo xs) xs (further (rw here at is)))

-- one that is removed
pub more-remove : (lo : ℕ) (r : Frames) (rs : List Frames) → find (begins_at lo) rs ≡ Some r → HasMore r (remove_at lo rs) rs
more-remove lo r [] is = absurd cc
more-remove lo r (x ∷ xs) is = more-remove_step lo r x xs (begins_at lo x) refl is (λ further. more-remove lo r xs further)

-- with other ranges before and after
pub more_within : (r : Frames) (xs old new ys : List Frames) → HasMore r old new → HasMore r (xs ++ (old ++ ys)) (xs ++ (new ++ ys))
more_within r xs old new ys h = record {
  before = xs ++ h.before;
  later = h.later ++ ys;
  was = rw h.was (simp append_assoc);
  is = rw h.is (simp append_assoc);
}

-- of equal lists
pub more_alike : (r : Frames) (old old' new new' : List Frames) → old ≡ old' → new ≡ new' → HasMore r old' new' → HasMore r old new
more_alike r old old' new new' e f h = record { before = h.before; later = h.later; was = e ∙ h.was; is = f ∙ h.is }
