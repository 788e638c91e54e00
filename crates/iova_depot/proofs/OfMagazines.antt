-- The magazines of one order's depot, as they are seen.
use Rattle.std.proofs.Common.{ℕ, ◌≡◌, ◌≢◌, ◌+◌, ◌-◌, ◌<◌, ◌≤◌, List, [], ◌∷◌, length, take, Option, Some, None, IfSome, IsSome, refl, sym, ap, ◌∙◌, arith}
use Rattle.std.specs.Prelude.{slice_index_or, slice_set, slice_get, remove}
use Rattle.std.proofs.lemmas.List.{length-map, length-set, length-take, get_or-map, map-set, take-map, take-set}
use Rattle.std.proofs.lemmas.List.Elements.{All-take, All-set, All-get_or, All-from_recursion, recursion_from_All}
use Rattle.iova_range.specs.Bounds.{Capacities}
use Rattle.iova_model.specs.Caches.{TakesOutOfDepot, without_list, front, last_or}
use Rattle.iova_model.specs.Valid.{IsDepotList}
use Rattle.iova_mag.specs.Magazines.{Magazine}
use Rattle.iova_depot.specs.Stored.{AreStored, lists_of}
use Rattle.iova_depot.proofs.Moves.{front-remove, takes_last, some_last}

abbrev pub entries_at : Magazine → List ℕ
entries_at m = m.entries

pub length-lists : (ms : List Magazine) → length (lists_of ms) ≡ length ms
length-lists ms = length-map ms entries_at

-- the entries at a place
pub list_at : (ms : List Magazine) (i : ℕ) (p : Magazine) → i < length ms → p ≡ slice_index_or ms i p → slice_index_or (lists_of ms) i [] ≡ p.entries
list_at ms i p lt is = get_or-map entries_at ms i p [] lt ∙ ap entries_at (sym is)

-- what stays sound with fewer magazines, and with another in the place of one
pub stored-take : (profile : Capacities) (ms : List Magazine) (n : ℕ) → AreStored profile ms → AreStored profile (take n ms)
stored-take profile ms n s =
    let lists = lists_of ms in
    let shorter = length-take n lists in
    let room : length lists ≤ profile.depot = s.sound.room in
    record {
      is_profile = s.is_profile;
      same = All-take (λ (m : Magazine). m.profile ≡ profile) n ms s.same;
      sound = rw (← (take-map entries_at n ms)) (record {
        room = omega arith;
        each = recursion_from_All (IsDepotList profile) _ (All-take (IsDepotList profile) n lists (All-from_recursion (IsDepotList profile) lists s.sound.each));
      });
    }

pub stored-set : (profile : Capacities) (ms : List Magazine) (i : ℕ) (q : Magazine) → AreStored profile ms → q.profile ≡ profile → IsDepotList profile q.entries → AreStored profile (slice_set ms i q)
stored-set profile ms i q s same is =
    let lists = lists_of ms in
    let as_long = length-set lists i q.entries in
    let room : length lists ≤ profile.depot = s.sound.room in
    record {
      is_profile = s.is_profile;
      same = All-set (λ (m : Magazine). m.profile ≡ profile) ms i q same s.same;
      sound = rw (map-set entries_at ms i q) (record {
        room = omega arith;
        each = recursion_from_All (IsDepotList profile) _ (All-set (IsDepotList profile) lists i q.entries is (All-from_recursion (IsDepotList profile) lists s.sound.each));
      });
    }

-- of the magazine at a place
pub profile_of : (profile : Capacities) (ms : List Magazine) (i : ℕ) (p : Magazine) → AreStored profile ms → i < length ms → p ≡ slice_index_or ms i p → p.profile ≡ profile
profile_of profile ms i p s lt is = ap (λ (m : Magazine). m.profile) is ∙ All-get_or (λ (m : Magazine). m.profile ≡ profile) ms i p lt s.same

pub sound_at : (profile : Capacities) (ms : List Magazine) (i : ℕ) (p : Magazine) → AreStored profile ms → i < length ms → p ≡ slice_index_or ms i p → IsDepotList profile p.entries
sound_at profile ms i p s lt is =
    let n = length-lists ms in
    let each = All-get_or (IsDepotList profile) (lists_of ms) i [] (omega arith) (All-from_recursion (IsDepotList profile) (lists_of ms) s.sound.each) in
    rw (list_at ms i p lt is) at each

-- a pop gives the last
same_magazine : (m : Magazine) (profile : Capacities) (entries : List ℕ) → m.profile ≡ profile → m.entries ≡ entries → m ≡ record { profile = profile; entries = entries }
same_magazine m profile entries e f =
    ap (λ (p : Capacities). let n : Magazine = record { profile = p; entries = m.entries } in n) e ∙ ap (λ (es : List ℕ). let n : Magazine = record { profile = profile; entries = es } in n) f

some_lists : (ms : List Magazine) → 0 < length ms → lists_of ms ≢ []
some_lists [] lt e = absurd (omega arith)
some_lists (m ∷ ms) lt e = absurd cc

same_some : (m n : Magazine) → Some m ≡ Some n → m ≡ n
same_some m n e = cc

pub popped_last : (profile : Capacities) (ms : List Magazine) (m : Magazine) → AreStored profile ms → 0 < length ms → m ≡ slice_index_or ms (length ms - 1) m
    → (lists_of ms ≢ []) × (m ≡ record { profile = profile; entries = last_or [] (lists_of ms) })
popped_last profile ms m s some is =
    let lt : length ms - 1 < length ms = omega arith in
    let entries : m.entries ≡ last_or [] (lists_of ms) = rw (length-lists ms) (sym (list_at ms (length ms - 1) m lt is)) in
    (some_lists ms some, same_magazine m profile (last_or [] (lists_of ms)) (profile_of profile ms (length ms - 1) m s lt is) entries)

-- what a pop gives, by what std says of it
pub popped : (profile : Capacities) (ms : List Magazine) (r : Option Magazine) (n : ℕ) → AreStored profile ms → n ≡ length ms → (IsSome r → 0 < n) → ((d : Magazine) → 0 < n → r ≡ Some (slice_index_or ms (n - 1) d))
    → IfSome r (λ m. (lists_of ms ≢ []) × (m ≡ record { profile = profile; entries = last_or [] (lists_of ms) }))
popped profile ms None n s len some value = tt
popped profile ms (Some m) n s len some value =
    let lt = some refl in
    popped_last profile ms m s (omega arith) (same_some m _ (rw len at (value m lt)))

-- no magazine is empty
pub has_newest : (profile : Capacities) (ms : List Magazine) (i : ℕ) (p : Magazine) → AreStored profile ms → i < length ms → p ≡ slice_index_or ms i p → slice_get p.entries (length p.entries - 1) ≡ None → ⊥
has_newest profile ms i p s lt is none = never p.entries (sound_at profile ms i p s lt is).some none
  where
    never : (los : List ℕ) → 1 ≤ length los → slice_get los (length los - 1) ≡ None → ⊥
    never [] some none = absurd (omega arith)
    never (x ∷ xs) some none = some_last x xs none

-- An entry leaves the last magazine.

pub record Leaves (profile : Capacities) (ms after : List Magazine) (lo : ℕ) : Type 0 where
  pub stored : AreStored profile after
  pub takes : TakesOutOfDepot lo (lists_of ms) (lists_of after)

pub leaves_and_goes : (profile : Capacities) (ms : List Magazine) (last lo : ℕ) (p q : Magazine) → AreStored profile ms → last + 1 ≡ length ms → p ≡ slice_index_or ms last p
    → slice_get p.entries (length p.entries - 1) ≡ Some lo → q.entries ≡ front p.entries → q.entries ≡ [] → Leaves profile ms (take last (slice_set ms last q)) lo
leaves_and_goes profile ms last lo p q s is_last is some front_is none =
    let n = length-lists ms in
    let l = takes_last p.entries lo some in
    let at = list_at ms last p (omega arith) is in
    let gone : front p.entries ≡ [] = sym front_is ∙ none in
    let shorter : lists_of (take last ms) ≡ remove (lists_of ms) last = sym (take-map entries_at last ms) ∙ front-remove (lists_of ms) last (omega arith) in
    rw (take-set ms last q) (record {
      stored = stored-take profile ms last s;
      takes = record { place = last; left = front p.entries; inside = omega arith; takes = rw at l.takes; others = rw gone shorter };
    })

others_stay : (lists : List (List ℕ)) (i : ℕ) (left : List ℕ) → 1 ≤ length left → slice_set lists i left ≡ without_list lists i left
others_stay lists i [] some = absurd (omega arith)
others_stay lists i (x ∷ xs) some = refl

pub leaves : (profile : Capacities) (ms : List Magazine) (last lo : ℕ) (p q : Magazine) → AreStored profile ms → last + 1 ≡ length ms → p ≡ slice_index_or ms last p
    → slice_get p.entries (length p.entries - 1) ≡ Some lo → q ≡ record p { entries = front p.entries } → q.entries ≢ [] → Leaves profile ms (slice_set ms last q) lo
leaves profile ms last lo p q s is_last is some front_is more =
    let n = length-lists ms in
    let l = takes_last p.entries lo some in
    let at = list_at ms last p (omega arith) is in
    let whole = sound_at profile ms last p s (omega arith) is in
    let shorter = l.count in
    let room : length p.entries ≤ profile.mag = whole.room in
    let entries : q.entries ≡ front p.entries = ap entries_at front_is in
    let same : q.profile ≡ profile = ap (λ (m : Magazine). m.profile) front_is ∙ profile_of profile ms last p s (omega arith) is in
    let some_left : 1 ≤ length q.entries = not_none q.entries more in
    let some_front : 1 ≤ length (front p.entries) = rw entries at some_left in
    record {
      stored = stored-set profile ms last q s same (rw entries (record { some = some_front; room = omega arith }));
      takes = record {
        place = last;
        left = front p.entries;
        inside = omega arith;
        takes = rw at l.takes;
        others = map-set entries_at ms last q ∙ rw entries (others_stay (lists_of ms) last (front p.entries) some_front);
      };
    }
  where
    not_none : (los : List ℕ) → los ≢ [] → 1 ≤ length los
    not_none [] no_list = absurd (no_list refl)
    not_none (x ∷ xs) no_list = omega arith
