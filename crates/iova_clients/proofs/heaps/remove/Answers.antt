use Rattle.std.proofs.Common.{◌≡◌, ◌<◌, ◌≤◌, ◌+◌, ◌++◌, ℕ, List, length, set, get_or, take, drop, length-take-le, subst, sym, ap, arith, ◌∙◌}
use Rattle.std.proofs.lemmas.List.{length-set, get_or_default}
use Rattle.std.specs.List.Sorted.{IsPermutation}
use Rattle.iova_range.specs.Frames.{Frames}
use Rattle.iova_clients.specs.Chains.{range_at}
use Rattle.iova_model.specs.Clients.{remove_at}
use Rattle.iova_clients.specs.Orders.{ordered, BeginApart}
use Rattle.iova_clients.proofs.Ordering.{taken_ordered, taken_apart}
use Rattle.iova_clients.proofs.Heaping.{IsReordered, reordered}
use Rattle.iova_clients.proofs.heaps.remove.Goals as goal

-- what is left, in the order that it was brought to
left : (cells zs : List Frames) (n p : ℕ) (x : Frames) → n < length cells → p ≤ n → BeginApart (range_at cells) (n + 1) → x ≡ get_or cells n x
    → IsPermutation (take n (set cells p x)) zs → length zs ≡ length (take n (set cells p x)) → IsReordered n (set cells p x) (zs ++ drop n (set cells p x))
left cells zs n p x lt le apart is perm long =
    let there : x ≡ range_at cells n = is ∙ get_or_default cells n x (record { lo = 0; len = 0 }) lt in
    let set_long = length-set cells p x in
    let within : n ≤ length (set cells p x) = omega (arith, set_long, lt) in
    let less : BeginApart (range_at (set cells p x)) n = subst (λ y. BeginApart (range_at (set cells p y)) n) (sym there) (taken_apart cells n p apart (omega (arith, le)) lt) in
    reordered (set cells p x) zs n within less perm (long ∙ length-take-le n (set cells p x) within)

less : (cells : List Frames) (n p : ℕ) (x : Frames) → n < length cells → p ≤ n → BeginApart (range_at cells) (n + 1) → x ≡ get_or cells n x
    → ordered (set cells p x) n ≡ remove_at (range_at cells p).lo (ordered cells (n + 1))
less cells n p x lt le apart is =
    let there : x ≡ range_at cells n = is ∙ get_or_default cells n x (record { lo = 0; len = 0 }) lt in
    ap (λ y. ordered (set cells p y) n) there ∙ taken_ordered cells n p apart (omega (arith, le)) lt

pub returns-then-last-gt0-clause-apart : goal.returns-then-last-gt0-clause-apart
returns-then-last-gt0-clause-apart c =
    (left c.args.cells.now c.sift_down.new.cells c.args.last c.args.place c.index-cells-last.result c.requires.within c.requires.place c.requires.apart c.index-cells-last.is c.sift_down.ensures.permutation c.sift_down.ensures.len).apart

pub returns-then-last-gt0-clause-less : goal.returns-then-last-gt0-clause-less
returns-then-last-gt0-clause-less c =
    (left c.args.cells.now c.sift_down.new.cells c.args.last c.args.place c.index-cells-last.result c.requires.within c.requires.place c.requires.apart c.index-cells-last.is c.sift_down.ensures.permutation c.sift_down.ensures.len).same
    ∙ less c.args.cells.now c.args.last c.args.place c.index-cells-last.result c.requires.within c.requires.place c.requires.apart c.index-cells-last.is

pub returns-clause-apart : goal.returns-clause-apart
returns-clause-apart c =
    (left c.args.cells.now c.make_heap.new.cells c.args.last c.args.place c.index-cells-last.result c.requires.within c.requires.place c.requires.apart c.index-cells-last.is c.make_heap.ensures.permutation c.make_heap.ensures.len).apart

pub returns-clause-less : goal.returns-clause-less
returns-clause-less c =
    (left c.args.cells.now c.make_heap.new.cells c.args.last c.args.place c.index-cells-last.result c.requires.within c.requires.place c.requires.apart c.index-cells-last.is c.make_heap.ensures.permutation c.make_heap.ensures.len).same
    ∙ less c.args.cells.now c.args.last c.args.place c.index-cells-last.result c.requires.within c.requires.place c.requires.apart c.index-cells-last.is
