-- A range on its way through a heap.
use Rattle.std.proofs.Common.{◌≡◌, ◌≢◌, ℕ, ◌<◌, ◌≤◌, List, length, get_or, ap, arith, ◌∙◌}
use Rattle.std.proofs.lemmas.Bool.{cases_eq}
use Rattle.std.proofs.lemmas.List.{get_or_default}
use Rattle.std.specs.List.{SwappedAt}
use Rattle.iova_range.specs.Frames.{Frames}
use Rattle.iova_clients.specs.Chains.{range_at}
use Rattle.iova_clients.specs.Heaps.{IsBelow}
use Rattle.iova_clients.proofs.Linking.{by_either}

pub below_over : (over place : ℕ) → IsBelow over place → over < place
below_over over place h = by_either h (λ x. omega (arith, x)) (λ x. omega (arith, x))

pub over_same : (a b place : ℕ) → IsBelow a place → IsBelow b place → a ≡ b
over_same a b place x y =
    by_either x
    (λ h. by_either y (λ k. omega (arith, h, k)) (λ k. omega (arith, h, k)))
    (λ h. by_either y (λ k. omega (arith, h, k)) (λ k. omega (arith, h, k)))

-- a read cell, and a read of its first frame
pub lo_read : (cells : List Frames) (k : ℕ) (x : Frames) (lo : ℕ) → k < length cells → x ≡ get_or cells k x → lo ≡ x.lo → lo ≡ (range_at cells k).lo
lo_read cells k x lo lt is begins =
    let here : x ≡ range_at cells k = is ∙ get_or_default cells k x (record { lo = 0; len = 0 }) lt in
    begins ∙ ap (λ r. r.lo) here

abbrev pub lo_at : List Frames → ℕ → ℕ
lo_at cells k = (range_at cells k).lo

-- only the one at this place may begin above one below it
abbrev pub AreOver : (ℕ → ℕ) → ℕ → ℕ → ℕ → Type 0
AreOver f from n at = (over place : ℕ) → from ≤ over → over ≢ at → IsBelow over place → place < n → f over ≤ f place

-- the one above it begins above none of those below it
abbrev pub IsOver : (ℕ → ℕ) → ℕ → ℕ → ℕ → Type 0
IsOver f from n at = (over place : ℕ) → from ≤ over → IsBelow over at → IsBelow at place → place < n → f over ≤ f place

pub down_others : (f g : ℕ → ℕ) (from n at low : ℕ) → g at ≡ f low → g low ≡ f at → ((k : ℕ) → k ≢ at → k ≢ low → g k ≡ f k)
    → IsBelow at low → f low ≤ f at → ((p : ℕ) → IsBelow at p → p < n → f low ≤ f p)
    → AreOver f from n at → IsOver f from n at → from ≤ at → low < n → AreOver g from n low
down_others f g from n at low up down same below le lowest others over start within o p ge ne is lt =
    by_either (cases_eq o at)
    (λ o_at. let p_below : IsBelow at p = rw o_at at is in
    by_either (cases_eq p low)
    (λ p_low. rw (o_at, p_low, up, down) le)
    (λ p_not. let more = below_over at p p_below in rw (o_at, up, same p (omega (arith, more)) p_not) (lowest p p_below lt)))
    (λ o_not. by_either (cases_eq p at)
    (λ p_at. rw (p_at, same o o_not ne, up) (over o low ge (rw p_at at is) below within))
    (λ p_not. by_either (cases_eq p low)
    (λ p_low. absurd (o_not (over_same o at low (rw p_low at is) below)))
    (λ p_other. rw (same o o_not ne, same p p_not p_other) (others o p ge o_not is lt))))

pub down_over : (f g : ℕ → ℕ) (from n at low : ℕ) → g at ≡ f low → ((k : ℕ) → k ≢ at → k ≢ low → g k ≡ f k)
    → IsBelow at low → AreOver f from n at → from ≤ at → IsOver g from n low
down_over f g from n at low up same below others start o p ge is under lt =
    let o_at : o ≡ at = over_same o at low is below in
    let low_more = below_over at low below in
    let p_more = below_over low p under in
    rw (o_at, up, same p (omega (arith, low_more, p_more)) (omega (arith, p_more))) (others low p (omega (arith, start, low_more)) (omega (arith, low_more)) under lt)

-- on the way up: only the one at this place may begin below the one above it
abbrev pub AreUnder : (ℕ → ℕ) → ℕ → ℕ → Type 0
AreUnder f n at = (over place : ℕ) → place ≢ at → IsBelow over place → place < n → f over ≤ f place

abbrev pub IsUnder : (ℕ → ℕ) → ℕ → ℕ → Type 0
IsUnder f n at = (over place : ℕ) → IsBelow over at → IsBelow at place → place < n → f over ≤ f place

pub up_others : (f g : ℕ → ℕ) (n at high : ℕ) → g at ≡ f high → g high ≡ f at → ((k : ℕ) → k ≢ at → k ≢ high → g k ≡ f k)
    → IsBelow high at → f at ≤ f high → AreUnder f n at → IsUnder f n at → AreUnder g n high
up_others f g n at high down up same below le others under o p ne is lt =
    by_either (cases_eq p at)
    (λ p_at. let o_high : o ≡ high = over_same o high at (rw p_at at is) below in rw (p_at, o_high, down, up) le)
    (λ p_not. by_either (cases_eq o at)
    (λ o_at. rw (o_at, down, same p p_not ne) (under high p below (rw o_at at is) lt))
    (λ o_not. by_either (cases_eq o high)
    (λ o_high. let more : f high ≤ f p = others high p p_not (rw o_high at is) lt in rw (o_high, up, same p p_not ne) (omega (arith, le, more)))
    (λ o_other. rw (same o o_not o_other, same p p_not ne) (others o p p_not is lt))))

pub up_under : (f g : ℕ → ℕ) (n at high : ℕ) → g at ≡ f high → ((k : ℕ) → k ≢ at → k ≢ high → g k ≡ f k)
    → IsBelow high at → high < n → AreUnder f n at → IsUnder g n high
up_under f g n at high down same below within others o p is under lt =
    let o_more = below_over o high is in
    let at_more = below_over high at below in
    let over : f o ≤ f high = others o high (omega (arith, at_more)) is within in
    by_either (cases_eq p at)
    (λ p_at. rw (p_at, down, same o (omega (arith, o_more, at_more)) (omega (arith, o_more))) over)
    (λ p_not. let p_more = below_over high p under in
    let down_too : f high ≤ f p = others high p p_not under lt in
    rw (same o (omega (arith, o_more, at_more)) (omega (arith, o_more)), same p p_not (omega (arith, p_more))) (omega (arith, over, down_too)))

-- a swap, by the first frames
pub swapped_los : (xs ys : List Frames) (a b : ℕ) → SwappedAt xs ys a b
    → (lo_at ys a ≡ lo_at xs b) × (lo_at ys b ≡ lo_at xs a) × ((k : ℕ) → k ≢ a → k ≢ b → lo_at ys k ≡ lo_at xs k)
swapped_los xs ys a b h =
    let d : Frames = record { lo = 0; len = 0 } in
    (ap (λ (r : Frames). r.lo) (h.0 d), ap (λ (r : Frames). r.lo) (h.1 d), λ k na nb. ap (λ (r : Frames). r.lo) (h.2 k d na nb))
