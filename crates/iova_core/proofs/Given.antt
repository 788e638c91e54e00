-- A range that a tree gives: nobody has it, and it is what the definitions find.
use Rattle.std.proofs.Common.{ℕ, ◌≡◌, ◌≤◌, Bool, true, false, cond, List, [], ◌∷◌, Some, None, refl, arith}
use Rattle.std.specs.Prelude.{nat_lt, nat_le, find, sum_by}
use Rattle.std.proofs.lemmas.Bool.Decides.{nat_tests}
use Rattle.iova_range.specs.Frames.{Frames, covers}
use Rattle.iova_model.specs.Clients.{Client, client_with, begins_at}
use Rattle.iova_model.specs.State.{State, held_ranges}
use Rattle.iova_model.proofs.Placing.{AreSome}
use Rattle.iova_core.proofs.Covered.{has}
use Rattle.iova_laws.proofs.Weights as weight
use Rattle.iova_laws.proofs.Weights.{held_are}

-- Ranges of a frame at least.

-- one where a range has no frame
lacks : Frames → ℕ
lacks r = cond (nat_le 1 r.len) 0 1

lacks_none : (r : Frames) (b : Bool) → nat_le 1 r.len ≡ b → 1 ≤ r.len → lacks r ≡ 0
unfolding lacks
lacks_none r true is some = rw is refl
lacks_none r false is some = absurd (grind (arith, nat_tests))

none_lacks : (r : Frames) (b : Bool) → nat_le 1 r.len ≡ b → lacks r ≡ 0 → 1 ≤ r.len
unfolding lacks
none_lacks r true is e = grind (arith, nat_tests)
none_lacks r false is e = absurd (let one : 1 ≡ 0 = rw is at e in omega arith)

some_weigh : (rs : List Frames) → AreSome rs → weight.ranges lacks rs ≡ 0
some_weigh [] all = refl
some_weigh (r ∷ rs) all = omega (arith, lacks_none r (nat_le 1 r.len) refl all.0, some_weigh rs all.1)

weigh_some : (rs : List Frames) → weight.ranges lacks rs ≡ 0 → AreSome rs
weigh_some [] e = tt
weigh_some (r ∷ rs) e = (none_lacks r (nat_le 1 r.len) refl (omega arith), weigh_some rs (omega arith))

pub some_alike : (xs ys : List Frames) → ((weigh : Frames → ℕ) → sum_by weigh xs ≡ sum_by weigh ys) → AreSome ys → AreSome xs
some_alike xs ys alike all = weigh_some xs (omega (arith, weight.ranges_are lacks xs, weight.ranges_are lacks ys, alike lacks, some_weigh ys all))

-- What a client has weighs no more than all that somebody has.
client_weighs : (weigh : Frames → ℕ) (s : State) (id : ℕ) (c : Client) → client_with id s.clients ≡ Some c → weight.ranges weigh c.holdings ≤ weight.ranges weigh (held_ranges s)
client_weighs weigh s id c found = omega (arith, held_are weigh s, weight.clients-forgotten weigh id c s.clients found)

find_step : (lo : ℕ) (x : Frames) (b : Bool) → begins_at lo x ≡ b → 1 ≤ x.len → has lo x ≡ 0 → begins_at lo x ≡ false
find_step lo x true is some none =
    let here : covers lo x ≡ true = grind (arith, nat_tests) in
    absurd (let one : 1 ≡ 0 = rw here at none in omega arith)
find_step lo x false is some none = is

find_none : (lo : ℕ) (xs : List Frames) → AreSome xs → weight.ranges (has lo) xs ≡ 0 → find (begins_at lo) xs ≡ None
find_none lo [] all none = refl
find_none lo (x ∷ xs) all none =
    let first : begins_at lo x ≡ false = find_step lo x (begins_at lo x) refl all.0 (omega arith) in
    rw first (find_none lo xs all.1 (omega arith))

uncovered_weighs : (n : ℕ) → nat_lt 0 n ≡ false → n ≡ 0
uncovered_weighs n e = grind (arith, nat_tests)
