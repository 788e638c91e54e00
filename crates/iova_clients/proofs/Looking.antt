-- The result of a look along a chain.
use Rattle.std.proofs.Common.{◌≡◌, ◌≢◌, ℕ, ◌+◌, ◌-◌, ◌<◌, ◌≤◌, List, length, find, get_or, None, Some, sym, ap, arith, ◌∙◌}
use Rattle.std.proofs.lemmas.Bool.{cases_lt}
use Rattle.std.proofs.lemmas.List.{get_or_default}
use Rattle.iova_range.specs.Frames.{Frames}
use Rattle.iova_model.specs.Clients.{begins_at}
use Rattle.iova_clients.specs.Chains.{chain_at, chain_of, range_at, AreLinks, IsEntryAt, IsEntryOf}
use Rattle.iova_clients.specs.Orders.{ordered, BeginApart}
use Rattle.iova_clients.proofs.Linking.{by_either, leads_below}
use Rattle.iova_clients.proofs.Ordering.{ordered_none, found_at}

pub looked_none : (cells : List Frames) (m n : ℕ) (links : List ℕ) (lo e : ℕ) → IsEntryOf cells m links lo e → get_or links e 0 ≡ 0
    → ((k : ℕ) → m ≤ k → k < n → (range_at cells k).lo ≢ lo) → find (begins_at lo) (ordered cells n) ≡ None
looked_none cells m n links lo e h none newest =
    ordered_none (range_at cells) n lo (λ k lt. by_either (cases_lt k m) (λ less. h.none none k less) (λ ge. newest k ge lt))

pub looked_below : (cells : List Frames) (n : ℕ) (links : List ℕ) (lo e : ℕ) → AreLinks cells n links → IsEntryOf cells n links lo e → get_or links e 0 ≢ 0 → get_or links e 0 - 1 < n
looked_below cells n links lo e chains h some =
    (leads_below (chain_at cells) (length cells) n links e (chain_of (length cells - 1) lo) h.bound chains h.own (omega (arith, some))).0

pub looked_entry : (cells : List Frames) (n : ℕ) (links : List ℕ) (lo e : ℕ) → IsEntryOf cells n links lo e → get_or links e 0 ≢ 0 → IsEntryAt cells n links e
looked_entry cells n links lo e h some = (chain_of (length cells - 1) lo, h.bound, h.own, omega (arith, some))

pub looked_some : (cells : List Frames) (m n : ℕ) (links : List ℕ) (lo e : ℕ) (x : Frames) → m ≤ n → n ≤ length cells → BeginApart (range_at cells) n → AreLinks cells m links → IsEntryOf cells m links lo e
    → get_or links e 0 ≢ 0 → x ≡ get_or cells (get_or links e 0 - 1) x → Some x ≡ find (begins_at lo) (ordered cells n)
looked_some cells m n links lo e x few within apart chains h some is =
    let under = looked_below cells m links lo e chains h some in
    let below : get_or links e 0 - 1 < n = omega (arith, under, few) in
    let here : x ≡ range_at cells (get_or links e 0 - 1) = is ∙ get_or_default cells (get_or links e 0 - 1) x (record { lo = 0; len = 0 }) (omega (arith, below, within)) in
    ap Some here ∙ sym (found_at cells n (get_or links e 0 - 1) lo apart below (h.found (omega (arith, some))))

-- the newest range is found at its place
pub newest_found : (cells : List Frames) (n lo : ℕ) (x : Frames) → 1 ≤ n → n ≤ length cells → BeginApart (range_at cells) n → x ≡ get_or cells (n - 1) x → x.lo ≡ lo
    → Some x ≡ find (begins_at lo) (ordered cells n)
newest_found cells n lo x some within apart is begins =
    let below : n - 1 < n = omega (arith, some) in
    let here : x ≡ range_at cells (n - 1) = is ∙ get_or_default cells (n - 1) x (record { lo = 0; len = 0 }) (omega (arith, some, within)) in
    ap Some here ∙ sym (found_at cells n (n - 1) lo apart below (ap (λ r. r.lo) (sym here) ∙ begins))

-- and where it begins elsewhere, so does every range that is in no chain
pub not_newest : (cells : List Frames) (m n lo : ℕ) (x : Frames) → n ≤ m + 1 → n ≤ length cells → x ≡ get_or cells (n - 1) x → (x.lo ≡ lo → ⊥)
    → (k : ℕ) → m ≤ k → k < n → (range_at cells k).lo ≢ lo
not_newest cells m n lo x few within is other k ge lt begins =
    let here : x ≡ range_at cells (n - 1) = is ∙ get_or_default cells (n - 1) x (record { lo = 0; len = 0 }) (omega (arith, lt, within)) in
    let same : k ≡ n - 1 = omega (arith, few, ge, lt) in
    other (ap (λ r. r.lo) here ∙ (sym (ap (λ j. (range_at cells j).lo) same) ∙ begins))

-- none is in no chain where all are in theirs
pub none_left : (cells : List Frames) (n lo : ℕ) → (k : ℕ) → n ≤ k → k < n → (range_at cells k).lo ≢ lo
none_left cells n lo k ge lt is = omega (arith, ge, lt)
