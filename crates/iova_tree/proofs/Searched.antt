-- The highest place behind links, once those that are too short for it are passed over.
use Rattle.std.proofs.Common.{ℕ, zero, suc, ◌≡◌, ◌+◌, ◌-◌, ◌<◌, ◌≤◌, List, [], ◌∷◌, ◌++◌, length, take, drop, slice_index_or, slice_set, Option, Some, None, refl, sym, ap, subst, ◌∙◌, arith, take-append-drop}
use Rattle.std.proofs.lemmas.List.{append-nil, length-take-le, get_or_default}
use Rattle.iova_tree.specs.Room.{room}
use Rattle.iova_tree.specs.Spans.{Span, end_after, first_lo, room_between, room_after, with_span, IsRisingFrom}
use Rattle.iova_tree.specs.declared.branch.Link.{Link}
use Rattle.iova_tree.specs.declared.search.Wanted.{Wanted}
use Rattle.iova_tree.specs.declared.search.FoundPlace.{FoundPlace}
use Rattle.iova_tree.specs.declared.search.FoundPlace.TheVariants.{Nowhere, At, Taken}
use Rattle.iova_tree.specs.Fit.{IsWanted, IsFound, higher, highest_after, taken}
use Rattle.iova_tree.specs.Branches.{spans_below, IsLinked, AreLinked, AreLinkedBehind, AreAllBelow, highest_behind}
use Rattle.std.proofs.Math.Seq.{take-suc, drop-cons}
use Rattle.iova_tree.proofs.Spans.{end_after-any, rising-front, rising-back, rising-weaken, rising_join, with_span-here, before_all}
use Rattle.iova_tree.proofs.Fits.{highest_after-append, highest_after-no_room}
use Rattle.iova_tree.proofs.Rooms.{room-nothing}
use Rattle.iova_tree.proofs.Found.{comes_in}
use Rattle.iova_tree.proofs.Branches.{parts_at, set_at, room_after-first, below-append, below_parts, in_parts, joined_parts, linked_front, end_last, some_below}

-- the first places of a list
pub index_take : {A : Type 0} (l : List A) (at k : ℕ) (d : A) → k < at → slice_index_or (take at l) k d ≡ slice_index_or l k d
index_take [] zero k d lt = absurd (omega arith)
index_take [] (suc at) k d lt = refl
index_take (x ∷ l) zero k d lt = absurd (omega arith)
index_take (x ∷ l) (suc at) zero d lt = refl
index_take (x ∷ l) (suc at) (suc k) d lt = index_take l at k d (omega arith)

module _ {N : Type 0} (spans : N → List Span) (w : Wanted) (h : IsWanted w) where
  room_linked : (e : ℕ) (k : Link N) → IsLinked (spans k.node) k.first k.end k.room → room e k.first ≤ k.room → room_after e (spans k.node) ≤ k.room
  room_linked e k own gap =
      let f = room_after-first e (spans k.node) own.some in
      let g = rw own.first_is at gap in
      omega (arith, f, g, own.room_most)

  -- nothing fits behind links that have less room
  none_above : (e : ℕ) (b : List (Link N)) → AreAllBelow w.size b → AreLinkedBehind spans e b → highest_after w e (spans_below spans b) ≡ None
  none_above e [] below linked = refl
  none_above e (k ∷ b) below linked =
      let own : highest_after w e (spans k.node) ≡ None = highest_after-no_room w e (spans k.node) h (omega (arith, room_linked e k linked.0 linked.1, below.0)) in
      let end : end_after e (spans k.node) ≡ k.end = end_after-any e 0 (spans k.node) linked.0.some ∙ sym linked.0.end_is in
      rw (highest_after-append w e (spans k.node) (spans_below spans b), end, none_above k.end b below.1 linked.2) own

  module _ (from : ℕ) (a : List (Link N)) (k : Link N) (b : List (Link N)) (linked : AreLinked spans (a ++ k ∷ b)) (rising : IsRisingFrom from (spans_below spans (a ++ k ∷ b))) where
    abbrev pub low : List Span
    low = spans_below spans a

    abbrev pub own : List Span
    own = spans k.node

    abbrev pub high : List Span
    high = spans_below spans b

    parts : spans_below spans (a ++ k ∷ b) ≡ low ++ (own ++ high)
    parts = below_parts spans a k b

    rises : IsRisingFrom from (low ++ (own ++ high))
    rises = rw parts at rising

    pub is_linked : IsLinked own k.first k.end k.room
    is_linked = (in_parts spans a k b linked).own

    pub rising_low : IsRisingFrom from low
    rising_low = rising-front from low (own ++ high) rises

    pub rising_own : IsRisingFrom (end_after from low) own
    rising_own = rising-front (end_after from low) own high (rising-back from low (own ++ high) rises)

    own_end : end_after (end_after from low) own ≡ k.end
    own_end = end_after-any (end_after from low) 0 own is_linked.some ∙ sym is_linked.end_is

    rising_high : IsRisingFrom k.end high
    rising_high = rw own_end at (rising-back (end_after from low) own high (rising-back from low (own ++ high) rises))

    pub whole : AreAllBelow w.size b → highest_after w from (spans_below spans (a ++ k ∷ b)) ≡ higher (highest_after w (end_after from low) own) (highest_after w from low)
    whole below = rw (parts, highest_after-append w from low (own ++ high), highest_after-append w (end_after from low) own high, own_end, none_above k.end b below (in_parts spans a k b linked).high) refl

    -- the link is exchanged for one with this range more
    pub taken_own : (n : Link N) (lo : ℕ) → highest_after w (end_after from low) own ≡ Some lo → spans n.node ≡ with_span (taken w lo) own
        → spans_below spans (a ++ n ∷ b) ≡ with_span (taken w lo) (spans_below spans (a ++ k ∷ b))
    taken_own n lo found is =
        let i = comes_in w (end_after from low) own lo h rising_own found in
        let r = rising-weaken 0 from _ (omega arith) rises in
        let le : end_after 0 low ≤ end_after from low = lower low in
        rw (below_parts spans a n b, is, parts) (sym (with_span-here (taken w lo) low own high r (omega (arith, i.low, le)) (before_all k.end (taken w lo) high (omega (arith, i.high, own_end)) rising_high)))
      where
        lower : (l : List Span) → end_after 0 l ≤ end_after from l
        lower [] = omega arith
        lower (x ∷ l) = omega arith

    pub same_own : (n : Link N) → spans n.node ≡ own → spans_below spans (a ++ n ∷ b) ≡ spans_below spans (a ++ k ∷ b)
    same_own n is = rw (below_parts spans a n b, is, parts) refl

-- The link at a place.

pub before_end_low : {N : Type 0} (spans : N → List Span) (from : ℕ) (links : List (Link N)) (at : ℕ) (d : Link N) → AreLinked spans (take at links) → 1 ≤ at → at < length links
    → (slice_index_or links (at - 1) d).end ≡ end_after from (spans_below spans (take at links))
before_end_low {N} spans from links at d low some lt =
    let n : length (take at links) ≡ at = length-take-le at links (omega arith) in
    let k : Link N = slice_index_or links (at - 1) d in
    let last : k ≡ slice_index_or (take at links) (length (take at links) - 1) k =
    rw (n, index_take links at (at - 1) k (omega arith)) (get_or_default links (at - 1) d k (omega arith)) in
    end_last spans from (take at links) k low (omega (arith, n)) last

pub before_end : {N : Type 0} (spans : N → List Span) (from : ℕ) (links : List (Link N)) (at : ℕ) (d : Link N) → AreLinked spans links → 1 ≤ at → at < length links
    → (slice_index_or links (at - 1) d).end ≡ end_after from (spans_below spans (take at links))
before_end spans from links at d linked some lt = before_end_low spans from links at d (linked_front spans (take at links) (drop at links) (rw (sym (take-append-drop at links)) at linked)) some lt

module _ {N : Type 0} (spans : N → List Span) (w : Wanted) (h : IsWanted w) (from : ℕ) (links : List (Link N)) (at : ℕ) (d : Link N) (lt : at < length links) (linked : AreLinked spans links) (rising : IsRisingFrom from (spans_below spans links)) where
  abbrev pub before_at : List (Link N)
  before_at = take at links

  abbrev pub behind_at : List (Link N)
  behind_at = drop (at + 1) links

  abbrev pub link_at : Link N
  link_at = slice_index_or links at d

  links_parted : links ≡ before_at ++ link_at ∷ behind_at
  links_parted = parts_at links at d lt

  parts_linked : AreLinked spans (before_at ++ link_at ∷ behind_at)
  parts_linked = rw links_parted at linked

  parts_rising : IsRisingFrom from (spans_below spans (before_at ++ link_at ∷ behind_at))
  parts_rising = rw links_parted at rising

  pub at_linked : IsLinked (spans link_at.node) link_at.first link_at.end link_at.room
  at_linked = is_linked spans w h from before_at link_at behind_at parts_linked parts_rising

  pub at_rising : IsRisingFrom (end_after from (spans_below spans before_at)) (spans link_at.node)
  at_rising = rising_own spans w h from before_at link_at behind_at parts_linked parts_rising

  pub low_linked : AreLinked spans before_at
  low_linked = (in_parts spans before_at link_at behind_at parts_linked).low

  pub low_rising : IsRisingFrom from (spans_below spans before_at)
  low_rising = rising_low spans w h from before_at link_at behind_at parts_linked parts_rising

  pub at_gap : 1 ≤ at → room (end_after from (spans_below spans before_at)) link_at.first ≤ link_at.room
  at_gap some =
      let n : length before_at ≡ at = length-take-le at links (omega arith) in
      let e = end_after-any from 0 (spans_below spans before_at) (some_below spans before_at low_linked (omega (arith, n))) in
      let g = (in_parts spans before_at link_at behind_at parts_linked).gap (omega (arith, n)) in
      rw e g

  -- the highest place behind the links up to this one
  pub front_whole : highest_after w from (spans_below spans (take (suc at) links)) ≡ higher (highest_after w (end_after from (spans_below spans before_at)) (spans link_at.node)) (highest_after w from (spans_below spans before_at))
  front_whole =
      let parts = below-append spans before_at (link_at ∷ []) in
      rw (take-suc links at d lt, parts, append-nil (spans link_at.node)) (highest_after-append w from (spans_below spans before_at) (spans link_at.node))

  pub own_is : spans_below spans (take 1 (drop at links)) ≡ spans link_at.node
  own_is = rw (drop-cons links at d lt) (append-nil (spans link_at.node))

  -- where it isn't the first, the place behind this link alone
  pub behind_is : 1 ≤ at → highest_behind spans w at links ≡ highest_after w (end_after from (spans_below spans before_at)) (spans link_at.node)
  behind_is some =
      let n : length before_at ≡ at = length-take-le at links (omega arith) in
      let e = end_after-any from 0 (spans_below spans before_at) (some_below spans before_at low_linked (omega (arith, n))) in
      rw (own_is, e) refl

  pub set_rises : (n : Link N) (lo : ℕ) → highest_after w (end_after from (spans_below spans before_at)) (spans link_at.node) ≡ Some lo → spans n.node ≡ with_span (taken w lo) (spans link_at.node) → IsRisingFrom from (spans_below spans (slice_set links at n))
  set_rises n lo found is =
      let low = spans_below spans before_at in
      let high = spans_below spans behind_at in
      let e = end_after from low in
      let i = comes_in w e (spans link_at.node) lo h at_rising found in
      let old = rw (below_parts spans before_at link_at behind_at) at parts_rising in
      let above = rising-back e (spans link_at.node) high (rising-back from low (spans link_at.node ++ high) old) in
      let own = rising_join e (with_span (taken w lo) (spans link_at.node)) high i.rising (rw i.same_end above) in
      rw (set_at links at n lt, below_parts spans before_at n behind_at, is) (rising_join from low (with_span (taken w lo) (spans link_at.node) ++ high) low_rising own)

  -- another link in its place, with this range more or not
  pub set_own : (n : Link N) (highest : Option ℕ) (o : FoundPlace) → highest ≡ highest_after w (end_after from (spans_below spans before_at)) (spans link_at.node)
      → IsFound (highest_after w (end_after from (spans_below spans before_at)) (spans link_at.node)) (spans n.node ≡ spans link_at.node) (λ lo. spans n.node ≡ with_span (taken w lo) (spans link_at.node)) o
      → IsFound highest (spans_below spans (slice_set links at n) ≡ spans_below spans links) (λ lo. spans_below spans (slice_set links at n) ≡ with_span (taken w lo) (spans_below spans links)) o
  set_own n highest o is f = go o f
    where
      old : spans_below spans links ≡ spans_below spans (before_at ++ link_at ∷ behind_at)
      old = ap (spans_below spans) links_parted

      new : spans_below spans (slice_set links at n) ≡ spans_below spans (before_at ++ n ∷ behind_at)
      new = ap (spans_below spans) (set_at links at n lt)

      go : (o : FoundPlace) → IsFound (highest_after w (end_after from (spans_below spans before_at)) (spans link_at.node)) (spans n.node ≡ spans link_at.node) (λ lo. spans n.node ≡ with_span (taken w lo) (spans link_at.node)) o
          → IsFound highest (spans_below spans (slice_set links at n) ≡ spans_below spans links) (λ lo. spans_below spans (slice_set links at n) ≡ with_span (taken w lo) (spans_below spans links)) o
      go Nowhere f = (is ∙ f.0, new ∙ same_own spans w h from before_at link_at behind_at parts_linked parts_rising n f.1 ∙ sym old)
      go (At lo) f = (is ∙ f.0, new ∙ same_own spans w h from before_at link_at behind_at parts_linked parts_rising n f.1 ∙ sym old)
      go (Taken lo) f = (is ∙ f.0, new ∙ taken_own spans w h from before_at link_at behind_at parts_linked parts_rising n lo f.0 f.1 ∙ ap (with_span (taken w lo)) (sym old))

  pub at_whole : AreAllBelow w.size behind_at → highest_after w from (spans_below spans links) ≡ higher (highest_after w (end_after from (spans_below spans before_at)) (spans link_at.node)) (highest_after w from (spans_below spans before_at))
  at_whole below = subst (λ l. highest_after w from (spans_below spans l) ≡ higher (highest_after w (end_after from (spans_below spans before_at)) (spans link_at.node)) (highest_after w from (spans_below spans before_at))) (sym links_parted) (whole spans w h from before_at link_at behind_at parts_linked parts_rising below)

  -- another link in its place
  pub set_linked : (n : Link N) → IsLinked (spans n.node) n.first n.end n.room → (1 ≤ at → room (end_after from (spans_below spans before_at)) n.first ≤ n.room) → n.end ≡ link_at.end → AreLinked spans (slice_set links at n)
  set_linked n own gap end =
      let i = in_parts spans before_at link_at behind_at parts_linked in
      let m : length before_at ≡ at = length-take-le at links (omega arith) in
      rw (set_at links at n lt) (joined_parts spans before_at n behind_at (record {
        low = i.low;
        own = own;
        gap = λ some. (let e = end_after-any from 0 (spans_below spans before_at) (some_below spans before_at low_linked some) in rw e at (gap (omega (arith, m))));
        high = rw end i.high;
      }))

module _ {N : Type 0} (spans : N → List Span) (w : Wanted) (h : IsWanted w) (from : ℕ) where
  -- nothing fits behind this link
  pub start_whole : (links : List (Link N)) (at : ℕ) → at < length links → AreLinked spans links → IsRisingFrom from (spans_below spans links) → AreAllBelow w.size (drop (at + 1) links)
      → highest_after w from (spans_below spans links) ≡ highest_after w from (spans_below spans (take (suc at) links))
  start_whole [] at lt linked rising below = absurd (omega arith)
  start_whole (k ∷ l) at lt linked rising below = at_whole spans w h from (k ∷ l) at k lt linked rising below ∙ sym (front_whole spans w h from (k ∷ l) at k lt linked rising)

  -- the place behind this link, or one behind those before it
  pub front_behind : (links : List (Link N)) (at : ℕ) → at < length links → AreLinked spans links → IsRisingFrom from (spans_below spans links) → 1 ≤ at
      → highest_after w from (spans_below spans (take (suc at) links)) ≡ higher (highest_behind spans w at links) (highest_after w from (spans_below spans (take at links)))
  front_behind [] at lt linked rising some = absurd (omega arith)
  front_behind (k ∷ l) at lt linked rising some = front_whole spans w h from (k ∷ l) at k lt linked rising ∙ rw (behind_is spans w h from (k ∷ l) at k lt linked rising some) refl

-- what was found behind a link is what is sought, where nothing is found behind those above it
pub found_of_own : (whole own low : Option ℕ) (same : Type 0) (is_taken : ℕ → Type 0) (o : FoundPlace) → (o ≡ Nowhere → ⊥) → whole ≡ higher own low → IsFound own same is_taken o → IsFound whole same is_taken o
found_of_own whole own low same is_taken Nowhere some is f = absurd (some refl)
found_of_own whole own low same is_taken (At lo) some is f = (is ∙ rw f.0 refl, f.1)
found_of_own whole own low same is_taken (Taken lo) some is f = (is ∙ rw f.0 refl, f.1)

pub found_as : (a b : Option ℕ) (same other : List Span) (new : List Span) (w : Wanted) (o : FoundPlace) → a ≡ b → same ≡ other → IsFound b (new ≡ same) (λ lo. new ≡ with_span (taken w lo) same) o
    → IsFound a (new ≡ other) (λ lo. new ≡ with_span (taken w lo) other) o
found_as a b same other new w Nowhere p q f = (p ∙ f.0, f.1 ∙ q)
found_as a b same other new w (At lo) p q f = (p ∙ f.0, f.1 ∙ q)
found_as a b same other new w (Taken lo) p q f = (p ∙ f.0, f.1 ∙ ap (with_span (taken w lo)) q)

-- no gap has more room once a range was taken from it
pub room_found : (w : Wanted) (h : IsWanted w) (from : ℕ) (l m : List Span) (o : FoundPlace) → IsRisingFrom from l
    → IsFound (highest_after w from l) (m ≡ l) (λ lo. m ≡ with_span (taken w lo) l) o → room_after from m ≤ room_after from l
room_found w h from l m Nowhere r f = rw f.1 (omega arith)
room_found w h from l m (At lo) r f = rw f.1 (omega arith)
room_found w h from l m (Taken lo) r f = rw f.1 (comes_in w from l lo h r f.0).room

-- Where the first gap begins at the lowest range, only those between neighbours are left.

pub room_own : (l : List Span) → 0 < length l → room_after (first_lo l) l ≡ room_between l
room_own [] some = absurd (omega arith)
room_own (x ∷ l) some = let z = room-nothing x.lo x.lo (omega arith) in rw z (omega arith)
