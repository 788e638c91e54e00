use Rattle.std.proofs.Common.{ℕ, ◌≡◌, ◌+◌, ◌-◌, ◌≤◌, Bool, true, false, length, List, Some, None, sym, ap, ◌∙◌, subst, rules, arith}
use Rattle.std.specs.List.{list_any}
use Rattle.iova_range.specs.declared.refusal.Refusal.TheVariants as refusal
use Rattle.iova_range.specs.Frames.{Frames, meets}
use Rattle.iova_model.specs.Fit.{is_clear}
use Rattle.iova_model.specs.Clients.{insert_rising}
use Rattle.iova_model.specs.Next.{from_to, union, windows_with}
use Rattle.iova_tree.specs.Space.{Space, space_of, clear_of, reserve_refusal}
use Rattle.iova_tree.proofs.Kept.{alone, alone_free, alone_windows, rises_from_zero}
use Rattle.iova_tree.proofs.Windows.{IsAsked, asked_full, asked_few, from_to-is}
use Rattle.iova_tree.proofs.tree.Tree.reserve.Goals as goal

asked_clear : (s : Space) (lo hi : ℕ) (asked : Frames) (taken : Bool) → lo ≤ hi → s.bounds.start ≤ lo → hi ≤ s.bounds.last → asked ≡ record { lo = lo; len = hi - lo + 1 } → taken ≡ list_any (meets (from_to lo hi)) s.inserted → taken ≡ false → IsAsked s lo hi asked
asked_clear s lo hi asked taken order start last frames told none =
    let is : asked ≡ from_to lo hi = frames ∙ sym (from_to-is lo hi order) in
    record { order = order; start = start; last = last; frames = is; clear = rw is (sym told ∙ none) }

pub returns-then-apart-ge-MAX_WINDOWS-clause-accepted : goal.returns-then-apart-ge-MAX_WINDOWS-clause-accepted
returns-then-apart-ge-MAX_WINDOWS-clause-accepted c =
    let i = c.self.inside in
    let s : Space = space_of i.bounds i.ranges i.windows.items in
    let asked : IsAsked s c.args.lo c.args.hi c.new-asked.result = asked_clear s _ _ _ _ c.if-lo-hi.false (rw c.start.ensures.is at c.if-lo-start.false) (rw c.last.ensures.is at c.if-hi-last.false) c.new-asked.ensures c.meets_inserted.ensures c.if-meets_inserted.false in
    let full : reserve_refusal s c.args.lo c.args.hi ≡ Some refusal.WindowsFull = asked_full s _ _ _ _ _ asked c.deref.ensures.value c.count_clear-apart.ensures c.if-apart-ge-MAX_WINDOWS.true in
    rw (← c.self.view_is, full) tt

pub returns-then-apart-len-clause-refused : goal.returns-then-apart-len-clause-refused
returns-then-apart-len-clause-refused c =
    let i = c.self.inside in
    let s : Space = space_of i.bounds i.ranges i.windows.items in
    let asked : IsAsked s c.args.lo c.args.hi c.new-asked.result = asked_clear s _ _ _ _ c.if-lo-hi.false (rw c.start.ensures.is at c.if-lo-start.false) (rw c.last.ensures.is at c.if-hi-last.false) c.new-asked.ensures c.meets_inserted.ensures c.if-meets_inserted.false in
    let none : reserve_refusal s c.args.lo c.args.hi ≡ None = asked_few s _ _ _ _ _ asked c.deref.ensures.value c.count_clear-apart.ensures c.if-apart-ge-MAX_WINDOWS.false in
    rw (← c.self.view_is, none) tt

pub add_window-requires-clause-free : goal.add_window-requires-clause-free
add_window-requires-clause-free c =
    let i = c.self.inside in
    let s : Space = space_of i.bounds i.ranges i.windows.items in
    let asked : IsAsked s c.args.lo c.args.hi c.new-asked.result = asked_clear s _ _ _ _ c.if-lo-hi.false (rw c.start.ensures.is at c.if-lo-start.false) (rw c.last.ensures.is at c.if-hi-last.false) c.new-asked.ensures c.meets_inserted.ensures c.if-meets_inserted.false in
    let n : c.len.result ≡ length i.windows.items = search (rules, c.len.ensures) in
    let count : c.count_clear-apart.result ≡ length (clear_of c.new-asked.result i.windows.items) = rw c.deref.ensures.value at c.count_clear-apart.ensures in
    let alone = alone c.new-asked.result i.windows.items (omega (arith, c.if-apart-len.false)) in
    rw (← c.self.view_is) (alone_free c.new-asked.result i.windows.items s.inserted alone asked.clear)

pub returns-in_err-add_window-clause-refused : goal.returns-in_err-add_window-clause-refused
returns-in_err-add_window-clause-refused c =
    let i = c.self.inside in
    let s : Space = space_of i.bounds i.ranges i.windows.items in
    let asked : IsAsked s c.args.lo c.args.hi c.new-asked.result = asked_clear s _ _ _ _ c.if-lo-hi.false (rw c.start.ensures.is at c.if-lo-start.false) (rw c.last.ensures.is at c.if-hi-last.false) c.new-asked.ensures c.meets_inserted.ensures c.if-meets_inserted.false in
    let none : reserve_refusal s c.args.lo c.args.hi ≡ None = asked_few s _ _ _ _ _ asked c.deref.ensures.value c.count_clear-apart.ensures c.if-apart-ge-MAX_WINDOWS.false in
    rw (← c.self.view_is, none) tt

pub returns-clause-refused : goal.returns-clause-refused
returns-clause-refused c =
    let i = c.self.inside in
    let s : Space = space_of i.bounds i.ranges i.windows.items in
    let asked : IsAsked s c.args.lo c.args.hi c.new-asked.result = asked_clear s _ _ _ _ c.if-lo-hi.false (rw c.start.ensures.is at c.if-lo-start.false) (rw c.last.ensures.is at c.if-hi-last.false) c.new-asked.ensures c.meets_inserted.ensures c.if-meets_inserted.false in
    let none : reserve_refusal s c.args.lo c.args.hi ≡ None = asked_few s _ _ _ _ _ asked c.deref.ensures.value c.count_clear-apart.ensures c.if-apart-ge-MAX_WINDOWS.false in
    rw (← c.self.view_is, none) tt

pub returns-clause-window : goal.returns-clause-window
returns-clause-window c =
    let i = c.self.inside in
    let s : Space = space_of i.bounds i.ranges i.windows.items in
    let asked : IsAsked s c.args.lo c.args.hi c.new-asked.result = asked_clear s _ _ _ _ c.if-lo-hi.false (rw c.start.ensures.is at c.if-lo-start.false) (rw c.last.ensures.is at c.if-hi-last.false) c.new-asked.ensures c.meets_inserted.ensures c.if-meets_inserted.false in
    let n : c.len.result ≡ length i.windows.items = search (rules, c.len.ensures) in
    let count : c.count_clear-apart.result ≡ length (clear_of c.new-asked.result i.windows.items) = rw c.deref.ensures.value at c.count_clear-apart.ensures in
    let alone = alone c.new-asked.result i.windows.items (omega (arith, c.if-apart-len.false)) in
    rw (← c.self.view_is) (subst (λ (r : Frames). c.new-asked.result ≡ union r i.windows.items) asked.frames (sym alone.union))

pub returns-clause-windows : goal.returns-clause-windows
returns-clause-windows c =
    let i = c.self.inside in
    let s : Space = space_of i.bounds i.ranges i.windows.items in
    let asked : IsAsked s c.args.lo c.args.hi c.new-asked.result = asked_clear s _ _ _ _ c.if-lo-hi.false (rw c.start.ensures.is at c.if-lo-start.false) (rw c.last.ensures.is at c.if-hi-last.false) c.new-asked.ensures c.meets_inserted.ensures c.if-meets_inserted.false in
    let n : c.len.result ≡ length i.windows.items = search (rules, c.len.ensures) in
    let count : c.count_clear-apart.result ≡ length (clear_of c.new-asked.result i.windows.items) = rw c.deref.ensures.value at c.count_clear-apart.ensures in
    let alone = alone c.new-asked.result i.windows.items (omega (arith, c.if-apart-len.false)) in
    let e : windows_with (from_to c.args.lo c.args.hi) i.windows.items ≡ insert_rising c.new-asked.result i.windows.items = subst (λ (r : Frames). windows_with r i.windows.items ≡ insert_rising c.new-asked.result i.windows.items) asked.frames (alone_windows c.new-asked.result i.windows.items alone) in
    let now : windows_with (from_to c.args.lo c.args.hi) c.args.self.now.windows ≡ insert_rising c.new-asked.result c.args.self.now.windows = rw (← c.self.view_is) e in
    c.in_ok-add_window.ensures.ok ∙ ap (λ (ws : List Frames). record c.args.self.now { windows = ws }) (sym now)

pub returns-in_err-add_window-clause-memory : goal.returns-in_err-add_window-clause-memory
returns-in_err-add_window-clause-memory c =
    let i = c.self.inside in
    let s : Space = space_of i.bounds i.ranges i.windows.items in
    let asked : IsAsked s c.args.lo c.args.hi c.new-asked.result = asked_clear s _ _ _ _ c.if-lo-hi.false (rw c.start.ensures.is at c.if-lo-start.false) (rw c.last.ensures.is at c.if-hi-last.false) c.new-asked.ensures c.meets_inserted.ensures c.if-meets_inserted.false in
    let n : c.len.result ≡ length i.windows.items = search (rules, c.len.ensures) in
    let count : c.count_clear-apart.result ≡ length (clear_of c.new-asked.result i.windows.items) = rw c.deref.ensures.value at c.count_clear-apart.ensures in
    let alone = alone c.new-asked.result i.windows.items (omega (arith, c.if-apart-len.false)) in
    rw (← c.self.view_is) (λ refused. subst (λ (r : Frames). is_clear r i.windows.items ≡ true) asked.frames alone.clear)

pub meets_inserted-requires-clause-rising : goal.meets_inserted-requires-clause-rising
meets_inserted-requires-clause-rising c = rises_from_zero c.self.inside.bounds c.self.inside.ranges c.self.invariant.within
