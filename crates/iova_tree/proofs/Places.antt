-- A link at a place is exchanged for another, or taken out.
use Rattle.std.proofs.Common.{ℕ, zero, suc, ◌≡◌, ◌+◌, ◌-◌, ◌<◌, ◌≤◌, inl, inr, max, Bool, true, false, cond, List, [], ◌∷◌, ◌++◌, length, take, drop, slice_index_or, slice_set, refl, sym, ap, subst, ◌∙◌, arith, length-append, length-set, take-append-drop}
use Rattle.std.specs.List.Sorted.{IsNonDecreasingBy}
use Rattle.std.specs.Prelude.{nat_lt, insert, remove}
use Rattle.std.proofs.Math.Seq.{drop-cons, take-suc}
use Rattle.std.proofs.lemmas.List.{append-nil, length-take-le, drop_all, take_all}
use Rattle.iova_tree.specs.Room.{room}
use Rattle.iova_tree.specs.Spans.{Span, end_after, first_lo, room_between, room_after, with_span, with_replaced, all_of, IsRisingFrom, IsBefore, Holds}
use Rattle.iova_tree.specs.declared.branch.Link.{Link}
use Rattle.iova_tree.specs.Branches.{spans_below, IsLinked, AreLinked, AreLinkedBehind, AreAtMost, LeadsTo}
use Rattle.iova_tree.proofs.Rooms.{room_mono, room-nothing}
use Rattle.iova_tree.proofs.Spans.{end_after-any, rising-front, rising-back, rising-weaken, rising-end, rising_join, node-gaps, end_some as end_some_after, first_below_end, room_after-append, room_between-after, node-middle, room_between-node, room_after-edge, room_below-edge, edge_after, edge_below, with_span-here, holds_above, replaced-front, replaced-behind}
use Rattle.iova_tree.proofs.Blocks.{room-front, room-back, room-joined}
use Rattle.iova_tree.proofs.Branches.{parts_at, set_at, take_set, index_set, below-append, below_parts, in_parts, joined_parts, behind_later, some_below, first_front, drop_behind, behind_alone, linked_back, room_after-first, IsInParts}
use Rattle.iova_tree.proofs.Searched.{before_end_low}
use Rattle.iova_model.specs.Fit.{is_covered}
use Rattle.iova_tree.proofs.Allocated.{covered_above, covered_before, covered_append, or_none}

-- What lies before, at, and behind a place.

rising_less : (e : ℕ) (x : Span) (m r : List Span) → IsRisingFrom e (with_span x m ++ r) → IsRisingFrom e (m ++ r)
rising_less e x [] r s = rising-weaken e x.end r (omega (arith, s.0, s.1)) s.2
rising_less e x (y ∷ m) r s = split (nat_lt x.lo y.lo) s (λ q. rising_less y.end x m r q)
  where
    split : (b : Bool) → IsRisingFrom e (cond b (x ∷ y ∷ m) (y ∷ with_span x m) ++ r) → (IsRisingFrom y.end (with_span x m ++ r) → IsRisingFrom y.end (m ++ r)) → IsRisingFrom e (y ∷ (m ++ r))
    split true s i = rising-weaken e x.end (y ∷ (m ++ r)) (omega (arith, s.0, s.1)) s.2
    split false s i = (s.0, s.1, i s.2)

pub rising_without : (l : List Span) (x : Span) (m r : List Span) → IsRisingFrom 0 (l ++ (with_span x m ++ r)) → IsRisingFrom 0 (l ++ (m ++ r))
rising_without l x m r s = rising_join 0 l (m ++ r) (rising-front 0 l (with_span x m ++ r) s) (rising_less (end_after 0 l) x m r (rising-back 0 l (with_span x m ++ r) s))

holds_front : (e lo : ℕ) (l r : List Span) → (Holds lo r → ⊥) → Holds lo (l ++ r) → Holds lo l
holds_front e lo [] r none h = absurd (none h)
holds_front e lo (x ∷ l) r none (inl h) = inl h
holds_front e lo (x ∷ l) r none (inr h) = inr (holds_front x.end lo l r none h)

holds_back : (e lo : ℕ) (l r : List Span) → IsRisingFrom e (l ++ r) → end_after e l ≤ lo → Holds lo (l ++ r) → Holds lo r
holds_back e lo [] r s le h = h
holds_back e lo (x ∷ l) r s le (inl h) =
    let i = rising-end x.end l (rising-front x.end l r s.2) in
    absurd (omega (arith, s.1))
holds_back e lo (x ∷ l) r s le (inr h) = holds_back x.end lo l r s.2 le h

none_before : (lo e : ℕ) (r : List Span) → ((x : Span) → x.lo ≡ lo → IsBefore x r) → IsRisingFrom e r → Holds lo r → ⊥
none_before lo e [] high s h = h
none_before lo e (y ∷ r) high s (inl h) = let b = high y h in absurd (omega arith)
none_before lo e (y ∷ r) high s (inr h) =
    let x : Span = record { lo = lo; end = lo; window = false } in
    let b = high x refl in
    let a = holds_above y.end lo r s.2 h in absurd (omega (arith, s.1))

pub held_own : (lo : ℕ) (l k r : List Span) → IsRisingFrom 0 (l ++ (k ++ r)) → end_after 0 l ≤ lo → ((x : Span) → x.lo ≡ lo → IsBefore x r) → Holds lo (l ++ (k ++ r)) → Holds lo k
held_own lo l k r s low high h =
    let t = rising-back 0 l (k ++ r) s in
    holds_front 0 lo k r (λ g. none_before lo (end_after (end_after 0 l) k) r high (rising-back (end_after 0 l) k r t) g) (holds_back 0 lo l (k ++ r) s low h)

pub replaced_own : (lo : ℕ) (y : Span) (l k r : List Span) → IsRisingFrom 0 (l ++ (k ++ r)) → end_after 0 l ≤ lo → Holds lo k → with_replaced lo y (l ++ (k ++ r)) ≡ l ++ (with_replaced lo y k ++ r)
replaced_own lo y l k r s low h =
    replaced-behind 0 lo y l (k ++ r) (rising-front 0 l (k ++ r) s) low
    ∙ ap (λ (m : List Span). l ++ m) (replaced-front lo y k r h)

edge_below-less : (lo f : ℕ) (l : List Span) → f ≤ lo → edge_below f l ≤ edge_below lo l
edge_below-less lo f [] le = omega arith
edge_below-less lo f (x ∷ l) le = room_mono (end_after x.end l) lo (end_after x.end l) f (omega arith) le

edge_after-less : (e d : ℕ) (r : List Span) → e ≤ d → edge_after d r ≤ edge_after e r
edge_after-less e d [] le = omega arith
edge_after-less e d (x ∷ r) le = room_mono e x.lo d x.lo le (omega arith)

-- where the ranges in the middle begin no later and end no earlier, only between them there may be more room
pub room_grown : (l k m r : List Span) → 0 < length k → 0 < length m → first_lo m ≤ first_lo k → end_after 0 k ≤ end_after 0 m → room_between (l ++ (m ++ r)) ≤ max (room_between (l ++ (k ++ r))) (room_between m)
room_grown l k m r some more first end =
    let a = room_between-node l k r some in
    let b = room_between-node l m r more in
    let c = room_below-edge (first_lo k) l in
    let d = room_below-edge (first_lo m) l in
    let e = room_after-edge (end_after 0 k) r in
    let f = room_after-edge (end_after 0 m) r in
    let g = edge_below-less (first_lo k) (first_lo m) l first in
    let h = edge_after-less (end_after 0 k) (end_after 0 m) r end in
    omega arith

module _ {N : Type 0} (spans : N → List Span) (links : List (Link N)) (at : ℕ) (d : Link N) (lt : at < length links) (linked : AreLinked spans links) (rising : IsRisingFrom 0 (spans_below spans links)) where
  abbrev pub before : List (Link N)
  before = take at links

  abbrev pub behind : List (Link N)
  behind = drop (at + 1) links

  abbrev pub own : Link N
  own = slice_index_or links at d

  whole : links ≡ before ++ own ∷ behind
  whole = parts_at links at d lt

  pub spans_are : spans_below spans links ≡ spans_below spans before ++ (spans own.node ++ spans_below spans behind)
  spans_are = ap (spans_below spans) whole ∙ below_parts spans before own behind

  pub parts_are : IsInParts spans own before behind
  parts_are = in_parts spans before own behind (rw whole at linked)

  pub rises : IsRisingFrom 0 (spans_below spans before ++ (spans own.node ++ spans_below spans behind))
  rises = rw spans_are at rising

  pub behind_alone_at : AreLinked spans behind
  behind_alone_at = behind_alone spans own.end behind parts_are.high

  -- the links before it and those behind it have no more room
  pub room_before : (r : ℕ) → room_between (spans_below spans links) ≤ r → room_between (spans_below spans before) ≤ r
  room_before r le =
      let m = rw spans_are at le in
      omega (arith, m, room-front (spans_below spans before) (spans own.node ++ spans_below spans behind))

  pub room_behind : (r : ℕ) → room_between (spans_below spans links) ≤ r → room_between (spans_below spans behind) ≤ r
  room_behind r le =
      let m = rw spans_are at le in
      omega (arith, m, room-back (spans_below spans before) (spans own.node ++ spans_below spans behind), room-back (spans own.node) (spans_below spans behind))

  pub room_from : (r : ℕ) → room_between (spans_below spans links) ≤ r → room_between (spans own.node ++ spans_below spans behind) ≤ r
  room_from r le =
      let m = rw spans_are at le in
      omega (arith, m, room-back (spans_below spans before) (spans own.node ++ spans_below spans behind))

  pub own_rises : IsRisingFrom 0 (spans own.node)
  own_rises = node-middle (spans_below spans before) (spans own.node) (spans_below spans behind) rises

  pub set_spans : (n : Link N) → spans_below spans (slice_set links at n) ≡ spans_below spans before ++ (spans n.node ++ spans_below spans behind)
  set_spans n = ap (spans_below spans) (set_at links at n lt) ∙ below_parts spans before n behind

  pub set_same : (n : Link N) → spans n.node ≡ spans own.node → spans_below spans (slice_set links at n) ≡ spans_below spans links
  set_same n is = set_spans n ∙ rw is (sym spans_are)

  -- with one that begins no later, ends no earlier, and has no lower bound
  pub set_grown : (n : Link N) → IsLinked (spans n.node) n.first n.end n.room → n.first ≤ own.first → own.end ≤ n.end → own.room ≤ n.room → AreLinked spans (slice_set links at n)
  set_grown n is first end more =
      let i = parts_are in
      rw (set_at links at n lt) (joined_parts spans before n behind (record {
        low = i.low;
        own = is;
        gap = λ some. (let g = i.gap some in let m = room_mono (end_after 0 (spans_below spans before)) own.first (end_after 0 (spans_below spans before)) n.first (omega arith) first in omega arith);
        high = behind_later spans own.end n.end behind end i.high;
      }))

  pub own_covered : (frame : ℕ) → LeadsTo spans frame links at → is_covered frame (all_of (spans_below spans links)) ≡ is_covered frame (all_of (spans own.node))
  own_covered frame leads =
      let l = spans_below spans before in
      let r = spans_below spans behind in
      let t = rising-back 0 l (spans own.node ++ r) rises in
      let low = covered_above 0 frame l (rising-front 0 l (spans own.node ++ r) rises) leads.low in
      let high = covered_before frame (end_after (end_after 0 l) (spans own.node)) r (rising-back (end_after 0 l) (spans own.node) r t) (leads.high (record { lo = frame; end = frame; window = false }) refl) in
      rw (spans_are, covered_append frame l (spans own.node ++ r), low, covered_append frame (spans own.node) r, high) (or_none _)

  module _ (lo : ℕ) (leads : LeadsTo spans lo links at) where
    pub own_held : Holds lo (spans_below spans links) → Holds lo (spans own.node)
    own_held h = held_own lo (spans_below spans before) (spans own.node) (spans_below spans behind) rises leads.low leads.high (rw spans_are at h)

    pub set_replaced : (y : Span) (n : Link N) → Holds lo (spans_below spans links) → spans n.node ≡ with_replaced lo y (spans own.node) → spans_below spans (slice_set links at n) ≡ with_replaced lo y (spans_below spans links)
    set_replaced y n h is = set_spans n ∙ rw (is, spans_are) (sym (replaced_own lo y (spans_below spans before) (spans own.node) (spans_below spans behind) rises leads.low (own_held h)))

    pub own_replaced : (y : Span) → Holds lo (spans_below spans links) → IsRisingFrom 0 (with_replaced lo y (spans_below spans links)) → IsRisingFrom 0 (with_replaced lo y (spans own.node))
    own_replaced y h free =
        let e = replaced_own lo y (spans_below spans before) (spans own.node) (spans_below spans behind) rises leads.low (own_held h) in
        node-middle (spans_below spans before) (with_replaced lo y (spans own.node)) (spans_below spans behind) (rw e at (rw spans_are at free))

  module _ (x : Span) (leads : LeadsTo spans x.lo links at) where
    with_own : with_span x (spans_below spans links) ≡ spans_below spans before ++ (with_span x (spans own.node) ++ spans_below spans behind)
    with_own = ap (with_span x) spans_are ∙ with_span-here x (spans_below spans before) (spans own.node) (spans_below spans behind) rises leads.low (leads.high x refl)

    pub own_free : IsRisingFrom 0 (with_span x (spans_below spans links)) → IsRisingFrom 0 (with_span x (spans own.node))
    own_free free = node-middle (spans_below spans before) (with_span x (spans own.node)) (spans_below spans behind) (rw with_own at free)

    pub set_with : (n : Link N) → spans n.node ≡ with_span x (spans own.node) → spans_below spans (slice_set links at n) ≡ with_span x (spans_below spans links)
    set_with n is = set_spans n ∙ rw is (sym with_own)

    -- what is left once a range is gone from there
    pub set_without : (n : Link N) → spans own.node ≡ with_span x (spans n.node) → IsRisingFrom 0 (spans_below spans before ++ (spans n.node ++ spans_below spans behind)) × (spans_below spans links ≡ with_span x (spans_below spans before ++ (spans n.node ++ spans_below spans behind)))
    set_without n is =
        let old = rw is at rises in
        let r = rising_without (spans_below spans before) x (spans n.node) (spans_below spans behind) old in
        (r, spans_are ∙ rw is (sym (with_span-here x (spans_below spans before) (spans n.node) (spans_below spans behind) r leads.low (leads.high x refl))))

  pub room_set : (n : Link N) → IsLinked (spans n.node) n.first n.end n.room → n.first ≤ own.first → own.end ≤ n.end → room_between (spans_below spans (slice_set links at n)) ≤ max (room_between (spans_below spans links)) n.room
  room_set n is first end =
      let k = parts_are.own in
      let g = room_grown (spans_below spans before) (spans own.node) (spans n.node) (spans_below spans behind) k.some is.some (rw (is.first_is, k.first_is) at first) (rw (is.end_is, k.end_is) at end) in
      rw (set_spans n, spans_are) (omega (arith, g, is.room_most))

  -- one that begins where it did, with no lower bound: the links up to it
  module _ (n : Link N) (is : IsLinked (spans n.node) n.first n.end n.room) (first : n.first ≡ own.first) (known : own.room ≤ n.room) where
    front_is : take (at + 1) (slice_set links at n) ≡ before ++ n ∷ []
    front_is =
        let j : at + 1 ≡ suc at = omega arith in
        let long = length-set links at n in
        let here = index_set links at n d lt in
        rw j (take-suc (slice_set links at n) at d (omega (arith, long)) ∙ rw (take_set links at n, here) refl)

    gap_kept : 0 < length before → room (end_after 0 (spans_below spans before)) n.first ≤ n.room
    gap_kept some = let g = parts_are.gap some in rw first (omega (arith, g, known))

    pub front_linked : AreLinked spans (take (at + 1) (slice_set links at n))
    front_linked = rw front_is (joined_parts spans before n [] (record { low = parts_are.low; own = is; gap = gap_kept; high = tt }))

    pub front_room : (r now : ℕ) → room_between (spans_below spans links) ≤ r → max r n.room ≤ now → room_between (spans_below spans (take (at + 1) (slice_set links at n))) ≤ now
    front_room r now le most =
        let whole = ap (spans_below spans) front_is ∙ below-append spans before (n ∷ []) ∙ ap (λ m. spans_below spans before ++ m) (append-nil (spans n.node)) in
        let same = ap room_between whole in
        omega (arith, same, go before refl)
      where
        go : (a : List (Link N)) → a ≡ before → room_between (spans_below spans a ++ spans n.node) ≤ now
        go [] same = omega (arith, is.room_most, most)
        go (x ∷ a) same =
            let long : 0 < length before = rw (← same) (omega arith) in
            let some = some_below spans before parts_are.low long in
            let j = room-joined (spans_below spans before) (spans n.node) some is.some in
            let g = rw is.first_is at (gap_kept long) in
            let all = ap (λ b. room_between (spans_below spans b ++ spans n.node)) same in
            omega (arith, all, j, g, is.room_most, most, room_before r le)

-- A link whose bound is raised.

module _ {N : Type 0} (spans : N → List Span) (links : List (Link N)) (at : ℕ) (d e : Link N) (lt : at < length links) (some : 1 ≤ at) (low : AreLinked spans (take at links)) (high : AreLinked spans (drop at links)) (rising : IsRisingFrom 0 (spans_below spans links)) where
  abbrev front : List (Link N)
  front = take at links

  abbrev back : List (Link N)
  back = drop (at + 1) links

  abbrev one : Link N
  one = slice_index_or links at d

  back_is : drop at links ≡ one ∷ back
  back_is = let j : at + 1 ≡ suc at = omega arith in rw j (drop-cons links at d lt)

  one_linked : AreLinked spans (one ∷ back)
  one_linked = rw back_is at high

  long : length front ≡ at
  long = length-take-le at links (omega arith)

  some_front : 0 < length (spans_below spans front)
  some_front = some_below spans front low (omega (arith, long))

  spans_is : spans_below spans links ≡ spans_below spans front ++ (spans one.node ++ spans_below spans back)
  spans_is = ap (spans_below spans) (parts_at links at d lt) ∙ below_parts spans front one back

  rises_is : IsRisingFrom 0 (spans_below spans front ++ (spans one.node ++ spans_below spans back))
  rises_is = rw spans_is at rising

  pub end_is : (slice_index_or links (at - 1) e).end ≡ end_after 0 (spans_below spans front)
  end_is = before_end_low spans 0 links at e low some lt

  pub end_some : 1 ≤ (slice_index_or links (at - 1) e).end
  end_some = rw end_is (end_some_after 0 (spans_below spans front) (rising-front 0 _ _ rises_is) some_front)

  pub end_apart : (slice_index_or links (at - 1) e).end ≤ (slice_index_or links at d).first
  end_apart =
      let g = (node-gaps (spans_below spans front) (spans one.node) (spans_below spans back) one_linked.0.some rises_is).0 in
      rw (end_is, one_linked.0.first_is) g

  module _ (n : Link N) (is : n ≡ record one { room = n.room }) (known : one.room ≤ n.room) (gap : room (slice_index_or links (at - 1) e).end one.first ≤ n.room) where
    node_is : n.node ≡ one.node
    node_is = ap (λ (x : Link N). x.node) is

    pub raised_linked : AreLinked spans (slice_set links at n)
    raised_linked =
        let first : n.first ≡ one.first = ap (λ (x : Link N). x.first) is in
        let end : n.end ≡ one.end = ap (λ (x : Link N). x.end) is in
        let k = one_linked.0 in
        let g = rw end_is at gap in
        rw (set_at links at n lt) (joined_parts spans front n back (record {
          low = low;
          own = record { some = rw node_is k.some; first_is = rw (first, node_is) k.first_is; end_is = rw (end, node_is) k.end_is; room_most = rw node_is (omega (arith, k.room_most, known)) };
          gap = λ some. rw first g;
          high = rw end one_linked.1;
        }))

    pub raised_same : spans_below spans (slice_set links at n) ≡ spans_below spans links
    raised_same = ap (spans_below spans) (set_at links at n lt) ∙ below_parts spans front n back ∙ rw (node_is, spans_is) refl

    pub raised_room : (old now : ℕ) → room_between (spans_below spans front) ≤ old → room_between (spans_below spans (drop at links)) ≤ old → max old n.room ≤ now → room_between (spans_below spans (slice_set links at n)) ≤ now
    raised_room old now p q most =
        let rest = spans one.node ++ spans_below spans back in
        let k = one_linked.0 in
        let more : 0 < length rest = omega (arith, k.some, length-append (spans one.node) (spans_below spans back)) in
        let j = room-joined (spans_below spans front) rest some_front more in
        let f : first_lo rest ≡ one.first = first_front (spans one.node) (spans_below spans back) k.some ∙ sym k.first_is in
        let g = rw end_is at gap in
        let q1 : room_between rest ≤ old = rw back_is at q in
        rw (raised_same, spans_is, j, f) (omega (arith, p, q1, g, most))

    pub raised_others : drop (at + 1) (slice_set links at n) ≡ drop (at + 1) links
    raised_others = drop_behind links at n

-- The first places of a list, and those behind them.

pub take_less : {A : Type 0} (l : List A) (at : ℕ) → take at (take (at + 1) l) ≡ take at l
take_less [] zero = refl
take_less [] (suc at) = let j : suc at + 1 ≡ suc (at + 1) = omega arith in rw j refl
take_less (x ∷ l) zero = refl
take_less (x ∷ l) (suc at) =
    let j : suc at + 1 ≡ suc (at + 1) = omega arith in
    rw j (ap (λ m. x ∷ m) (take_less l at))

pub drop_less : {A : Type 0} (l : List A) (at : ℕ) → drop at (take (at + 1) l) ≡ take 1 (drop at l)
drop_less [] zero = refl
drop_less [] (suc at) = let j : suc at + 1 ≡ suc (at + 1) = omega arith in rw j refl
drop_less (x ∷ l) zero = refl
drop_less (x ∷ l) (suc at) =
    let j : suc at + 1 ≡ suc (at + 1) = omega arith in
    rw j (drop_less l at)

-- a link with the same ranges in a place: those up to there have the same
pub set_low : {N : Type 0} (spans : N → List Span) (links : List (Link N)) (at : ℕ) (d n : Link N) → at < length links → spans n.node ≡ spans (slice_index_or links at d).node
    → spans_below spans (take (at + 1) (slice_set links at n)) ≡ spans_below spans (take (at + 1) links)
set_low spans [] at d n lt same = absurd (omega arith)
set_low spans (x ∷ []) zero d n lt same = rw same refl
set_low spans (x ∷ (y ∷ l)) zero d n lt same = rw same refl
set_low spans (x ∷ l) (suc at) d n lt same =
    let j : suc at + 1 ≡ suc (at + 1) = omega arith in
    rw j (ap (λ m. spans x.node ++ m) (set_low spans l at d n (omega arith) same))

-- Which link leads to a frame.

module _ {N : Type 0} (spans : N → List Span) where
  firsts_above : (e : ℕ) (l : List (Link N)) → AreLinked spans l → IsRisingFrom e (spans_below spans l) → (k : ℕ) (d : Link N) → k < length l → e ≤ (slice_index_or l k d).first
  firsts_above e [] h r k d lt = absurd (omega arith)
  firsts_above e (x ∷ l) h r zero d lt = let f = first_above e (spans x.node) h.0.some (rising-front e (spans x.node) (spans_below spans l) r) in rw h.0.first_is f
    where
      first_above : (e : ℕ) (m : List Span) → 0 < length m → IsRisingFrom e m → e ≤ first_lo m
      first_above e [] some r = absurd (omega arith)
      first_above e (y ∷ m) some r = r.0
  firsts_above e (x ∷ l) h r (suc k) d lt =
      let low = rising-end e (spans x.node) (rising-front e (spans x.node) (spans_below spans l) r) in
      let i = firsts_above (end_after e (spans x.node)) l (behind_alone spans x.end l h.1) (rising-back e (spans x.node) (spans_below spans l) r) k d (omega arith) in
      omega arith

  pub firsts_sorted : (e : ℕ) (l : List (Link N)) → AreLinked spans l → IsRisingFrom e (spans_below spans l) → IsNonDecreasingBy (λ (k : Link N). k.first) l
  firsts_sorted e [] h r i j d le lt = absurd (omega arith)
  firsts_sorted e (x ∷ l) h r zero zero d le lt = omega arith
  firsts_sorted e (x ∷ l) h r zero (suc j) d le lt =
      let own = rising-front e (spans x.node) (spans_below spans l) r in
      let f = first_below_end e (spans x.node) h.0.some own in
      let g = end_after-any 0 e (spans x.node) h.0.some in
      let i = firsts_above (end_after e (spans x.node)) l (behind_alone spans x.end l h.1) (rising-back e (spans x.node) (spans_below spans l) r) j d (omega arith) in
      omega (arith, h.0.first_is)
  firsts_sorted e (x ∷ l) h r (suc i) zero d le lt = absurd (omega arith)
  firsts_sorted e (x ∷ l) h r (suc i) (suc j) d le lt = firsts_sorted (end_after e (spans x.node)) l (behind_alone spans x.end l h.1) (rising-back e (spans x.node) (spans_below spans l) r) i j d (omega arith) (omega arith)

  before_links : (x : Span) (l : List (Link N)) → AreLinked spans l → ((d : Link N) → 0 < length l → x.lo < (slice_index_or l 0 d).first) → IsBefore x (spans_below spans l)
  before_links x [] h lower = tt
  before_links x (k ∷ l) h lower = let lt = lower k (omega arith) in step (spans k.node) h.0.some (rw h.0.first_is at lt)
    where
      step : (m : List Span) → 0 < length m → x.lo < first_lo m → IsBefore x (m ++ spans_below spans l)
      step [] some lt = absurd (omega arith)
      step (y ∷ m) some lt = lt

  -- the last of the links that begin no later than the frame, or the first
  pub leads_to : (frame : ℕ) (links : List (Link N)) (at point : ℕ) → at ≡ point - 1 → 0 < length links → point ≤ length links → AreLinked spans links → IsRisingFrom 0 (spans_below spans links)
      → ((k : ℕ) (d : Link N) → k < point → (slice_index_or links k d).first ≤ frame) → ((k : ℕ) (d : Link N) → point ≤ k → k < length links → frame < (slice_index_or links k d).first) → LeadsTo spans frame links at
  leads_to frame [] at point is some le linked rising below above = absurd (omega arith)
  leads_to frame (q ∷ links) at point is some le linked rising below above = record {
    within = omega arith;
    low = low at (omega arith) refl;
    high = λ x same. before_links x (drop (at + 1) (q ∷ links)) (linked_back spans (take (at + 1) (q ∷ links)) (drop (at + 1) (q ∷ links)) (subst (AreLinked spans) (sym (take-append-drop (at + 1) (q ∷ links))) linked))
        (λ d lt. (let a = above (at + 1) d (omega arith) (more (at + 1) (q ∷ links) lt) in rw (same, index_drop (q ∷ links) (at + 1) d) a));
  }
    where
      more : {A : Type 0} (n : ℕ) (l : List A) → 0 < length (drop n l) → n < length l
      more zero l lt = lt
      more (suc n) [] lt = absurd (omega arith)
      more (suc n) (x ∷ l) lt = let i = more n l lt in omega arith

      index_drop : {A : Type 0} (l : List A) (n : ℕ) (d : A) → slice_index_or (drop n l) 0 d ≡ slice_index_or l n d
      index_drop l zero d = refl
      index_drop [] (suc n) d = refl
      index_drop (x ∷ l) (suc n) d = index_drop l n d

      low : (n : ℕ) → n < length (q ∷ links) → n ≡ at → end_after 0 (spans_below spans (take n (q ∷ links))) ≤ frame
      low zero lt e = omega arith
      low (suc n) lt e =
          let k = slice_index_or (q ∷ links) (suc n) q in
          let b = below (suc n) q (omega arith) in
          let i = parts_are spans (q ∷ links) (suc n) q lt linked rising in
          let g = (node-gaps (spans_below spans (take (suc n) (q ∷ links))) (spans k.node) (spans_below spans (drop (suc n + 1) (q ∷ links))) i.own.some (rises spans (q ∷ links) (suc n) q lt linked rising)).0 in
          omega (arith, g, b, i.own.first_is)

  -- no more room than the greatest bound
  most_behind : (e room : ℕ) (l : List (Link N)) → AreLinkedBehind spans e l → AreAtMost room l → room_after e (spans_below spans l) ≤ room
  most_behind e room [] h most = omega arith
  most_behind e room (k ∷ l) h most =
      let a = room_after-append e (spans k.node) (spans_below spans l) in
      let f = room_after-first e (spans k.node) h.0.some in
      let end : end_after e (spans k.node) ≡ k.end = end_after-any e 0 (spans k.node) h.0.some ∙ sym h.0.end_is in
      let i = rw (sym end) at (most_behind k.end room l h.2 most.1) in
      let gap = rw h.0.first_is at h.1 in
      omega (arith, a, f, i, gap, h.0.room_most, most.0)

  pub most_linked : (from top : ℕ) (k : Link N) (l : List (Link N)) → AreLinked spans (k ∷ l) → max k.room (room from k.first) ≤ top → AreAtMost top l → room_after from (spans_below spans (k ∷ l)) ≤ top
  most_linked from top k l h own most =
      let a = room_after-append from (spans k.node) (spans_below spans l) in
      let f = room_after-first from (spans k.node) h.0.some in
      let end : end_after from (spans k.node) ≡ k.end = end_after-any from 0 (spans k.node) h.0.some ∙ sym h.0.end_is in
      let i = rw (sym end) at (most_behind k.end top l h.1 most) in
      let gap = rw h.0.first_is at own in
      omega (arith, a, f, i, gap, h.0.room_most)

  pub most_between : (top : ℕ) (l : List (Link N)) → AreLinked spans l → AreAtMost top l → room_between (spans_below spans l) ≤ top
  most_between top [] h most = omega arith
  most_between top (k ∷ l) h most =
      let none = room-nothing k.first k.first (omega arith) in
      let all = most_linked k.first top k l h (omega (arith, none, most.0)) most.1 in
      omega (arith, all, room_between-after k.first (spans k.node ++ spans_below spans l))

-- A range is gone from behind a link.

pub take_front : {A : Type 0} (at : ℕ) (a b : List A) → length a ≡ at → take at (a ++ b) ≡ a
take_front zero [] b n = refl
take_front zero (x ∷ a) b n = absurd (omega arith)
take_front (suc at) [] b n = absurd (omega arith)
take_front (suc at) (x ∷ a) b n = ap (λ m. x ∷ m) (take_front at a b (omega arith))

pub drop_front : {A : Type 0} (at : ℕ) (a b : List A) → length a ≡ at → drop at (a ++ b) ≡ b
drop_front zero [] b n = refl
drop_front zero (x ∷ a) b n = absurd (omega arith)
drop_front (suc at) [] b n = absurd (omega arith)
drop_front (suc at) (x ∷ a) b n = drop_front at a b (omega arith)

pub whole_back : {A : Type 0} (n : ℕ) (x l : List A) → length x ≡ n → length l ≡ n → take n (x ++ drop (length x) l) ≡ x
whole_back n x l p q =
    let none : drop (length x) l ≡ [] = drop_all (length x) l (omega arith) in
    rw (none, append-nil x) (take_all n x (omega arith))

pub removed_set : {A : Type 0} (l : List A) (at : ℕ) (y : A) → remove (slice_set l at y) at ≡ take at l ++ drop (at + 1) l
removed_set l at y =
    let j : at + 1 ≡ suc at = omega arith in
    let d = rw j at (drop_behind l at y) in
    rw (j, take_set l at y, d) refl

module _ {N : Type 0} (spans : N → List Span) (links : List (Link N)) (at : ℕ) (d : Link N) (lt : at < length links) (linked : AreLinked spans links) (rising : IsRisingFrom 0 (spans_below spans links))
    (lo : ℕ) (leads : LeadsTo spans lo links at) (x : Span) (begins : x.lo ≡ lo) (n : Link N) (is : spans (slice_index_or links at d).node ≡ with_span x (spans n.node)) where
  abbrev left : List (Link N)
  left = take at links

  abbrev right : List (Link N)
  right = drop (at + 1) links

  leads_x : LeadsTo spans x.lo links at
  leads_x = rw begins leads

  pub gone_rises : IsRisingFrom 0 (spans_below spans left ++ (spans n.node ++ spans_below spans right))
  gone_rises = (set_without spans links at d lt linked rising x leads_x n is).0

  pub gone_taken : spans_below spans links ≡ with_span x (spans_below spans left ++ (spans n.node ++ spans_below spans right))
  gone_taken = (set_without spans links at d lt linked rising x leads_x n is).1

  pub room_left : (r : ℕ) → room_between (spans_below spans links) ≤ r → room_between (spans_below spans left) ≤ r
  room_left r le = room_before spans links at d lt linked rising r le

  pub room_right : (r : ℕ) → room_between (spans_below spans links) ≤ r → room_between (spans_below spans right) ≤ r
  room_right r le = room_behind spans links at d lt linked rising r le

  -- where its node has no other
  module _ (none : spans n.node ≡ []) where
    pub none_rises : IsRisingFrom 0 (spans_below spans (left ++ right))
    none_rises = let r = rw none at gone_rises in rw (below-append spans left right) r

    pub none_taken : spans_below spans links ≡ with_span x (spans_below spans (left ++ right))
    none_taken = gone_taken ∙ rw (none, below-append spans left right) refl

    pub none_low : AreLinked spans (take at (left ++ right))
    none_low = rw (take_front at left right (length-take-le at links (omega arith))) (parts_are spans links at d lt linked rising).low

    pub none_high : AreLinked spans (drop at (left ++ right))
    none_high = rw (drop_front at left right (length-take-le at links (omega arith))) (behind_alone spans (slice_index_or links at d).end right (parts_are spans links at d lt linked rising).high)

    pub none_room_low : (r : ℕ) → room_between (spans_below spans links) ≤ r → room_between (spans_below spans (take at (left ++ right))) ≤ r
    none_room_low r le = rw (take_front at left right (length-take-le at links (omega arith))) (room_left r le)

    pub none_room_high : (r : ℕ) → room_between (spans_below spans links) ≤ r → room_between (spans_below spans (drop at (left ++ right))) ≤ r
    none_room_high r le = rw (drop_front at left right (length-take-le at links (omega arith))) (room_right r le)

-- A node is cut in two, each behind a link.

pub insert_set : {A : Type 0} (l : List A) (at : ℕ) (y z : A) → at < length l → insert (slice_set l at y) (at + 1) z ≡ take at l ++ y ∷ (z ∷ drop (at + 1) l)
insert_set [] at y z lt = absurd (omega arith)
insert_set (x ∷ l) zero y z lt = refl
insert_set (x ∷ l) (suc at) y z lt =
    let j : suc at + 1 ≡ suc (at + 1) = omega arith in
    rw j (ap (λ m. x ∷ m) (insert_set l at y z (omega arith)))

module _ {N : Type 0} (spans : N → List Span) (links : List (Link N)) (at : ℕ) (d : Link N) (lt : at < length links) (linked : AreLinked spans links) (rising : IsRisingFrom 0 (spans_below spans links)) where
  abbrev whole_link : Link N
  whole_link = slice_index_or links at d

  pub cut_low : (low high : Link N) → AreLinked spans (take at (insert (slice_set links at low) (at + 1) high))
  cut_low low high =
      let front = take_front at (take at links) (low ∷ (high ∷ drop (at + 1) links)) (length-take-le at links (omega arith)) in
      rw (insert_set links at low high lt, front) (parts_are spans links at d lt linked rising).low

  cut_behind : (low high : Link N) → drop (at + 1) (insert (slice_set links at low) (at + 1) high) ≡ high ∷ drop (at + 1) links
  cut_behind low high = ap (drop (at + 1)) (insert_set links at low high lt) ∙ behind_front at (take at links) low (high ∷ drop (at + 1) links) (length-take-le at links (omega arith))
    where
      behind_front : {A : Type 0} (k : ℕ) (m : List A) (y : A) (r : List A) → length m ≡ k → drop (k + 1) (m ++ y ∷ r) ≡ r
      behind_front zero [] y [] is = refl
      behind_front zero [] y (z ∷ r) is = refl
      behind_front zero (x ∷ m) y r is = absurd (omega arith)
      behind_front (suc k) [] y r is = absurd (omega arith)
      behind_front (suc k) (x ∷ m) y r is =
          let j : suc k + 1 ≡ suc (k + 1) = omega arith in
          rw j (behind_front k m y r (omega arith))

  pub cut_high : (low high : Link N) → IsLinked (spans high.node) high.first high.end high.room → high.end ≡ whole_link.end → AreLinked spans (drop (at + 1) (insert (slice_set links at low) (at + 1) high))
  cut_high low high is end = rw (cut_behind low high) (is, rw end (parts_are spans links at d lt linked rising).high)

  pub cut_same : (low high : Link N) → spans whole_link.node ≡ spans low.node ++ spans high.node → spans_below spans (insert (slice_set links at low) (at + 1) high) ≡ spans_below spans links
  cut_same low high is =
      ap (spans_below spans) (insert_set links at low high lt) ∙ below_parts spans (take at links) low (high ∷ drop (at + 1) links)
      ∙ rw (spans_are spans links at d lt linked rising, is) (ap (λ m. spans_below spans (take at links) ++ m) (swap (spans low.node) (spans high.node) (spans_below spans (drop (at + 1) links))))
    where
      swap : (x y z : List Span) → x ++ (y ++ z) ≡ (x ++ y) ++ z
      swap [] y z = refl
      swap (s ∷ x) y z = ap (λ m. s ∷ m) (swap x y z)
