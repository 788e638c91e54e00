-- Worked examples of magazines and the depot.
use Rattle.std.proofs.Common.{ℕ, zero, suc, ap, ◌≡◌, ◌++◌, List, [], ◌∷◌, Some, None, refl, arith}
use Rattle.std.specs.Prelude.{replicate, slice_get}
use Rattle.iova_range.specs.Bounds.{Capacities, first_profile, second_profile}
use Rattle.iova_model.specs.Caches.{Cache, no_magazines, new_caches, get, put, sent_out, put_range, put_all, freed_by_puts, without_entries, TakesOut, TakesOutOfDepot, TakesAny, Caches, cache_at, with_shelf}
use Rattle.iova_model.proofs.ExampleWords.{at, shelf}

-- Get and pop.

pops_the_last : get (shelf (2 ∷ 9 ∷ 1 ∷ []) [] []) 1023 1 ≡ (Some 1, shelf (2 ∷ 9 ∷ []) [] [])
pops_the_last = refl

pops_the_last_that_fits : get (shelf (3 ∷ 2 ∷ 9 ∷ 8 ∷ []) [] []) 5 1 ≡ (Some 2, shelf (3 ∷ 8 ∷ 9 ∷ []) [] [])
pops_the_last_that_fits = refl

-- four frames each: 8 to 11, and 4 to 7
last_frame_at_the_limit : get (shelf (4 ∷ 8 ∷ []) [] []) 11 4 ≡ (Some 8, shelf (4 ∷ []) [] [])
last_frame_at_the_limit = refl

last_frame_above_it : get (shelf (4 ∷ 8 ∷ []) [] []) 10 4 ≡ (Some 4, shelf (8 ∷ []) [] [])
last_frame_above_it = refl

empty_shelf : get (shelf [] [] []) 1023 1 ≡ (None, shelf [] [] [])
empty_shelf = refl

get_changes_places : get (shelf [] (5 ∷ 6 ∷ []) ((7 ∷ []) ∷ [])) 1023 1 ≡ (Some 6, shelf (5 ∷ []) [] ((7 ∷ []) ∷ []))
get_changes_places = refl

get_leaves_previous : get (shelf (4 ∷ []) (5 ∷ 6 ∷ []) ((7 ∷ []) ∷ [])) 1023 1 ≡ (Some 4, shelf [] (5 ∷ 6 ∷ []) ((7 ∷ []) ∷ []))
get_leaves_previous = refl

get_takes_the_newest_of_the_depot : get (shelf [] [] ((2 ∷ []) ∷ (3 ∷ []) ∷ [])) 1023 1 ≡ (Some 3, shelf [] [] ((2 ∷ []) ∷ []))
get_takes_the_newest_of_the_depot = refl

-- A miss leaves the moves, and tries nothing else.

previous_is_not_tried : get (shelf (9 ∷ []) (2 ∷ []) ((3 ∷ []) ∷ [])) 4 1 ≡ (None, shelf (9 ∷ []) (2 ∷ []) ((3 ∷ []) ∷ []))
previous_is_not_tried = refl

missed_previous_stays_loaded : get (shelf [] (5 ∷ []) ((3 ∷ []) ∷ [])) 4 1 ≡ (None, shelf (5 ∷ []) [] ((3 ∷ []) ∷ []))
missed_previous_stays_loaded = refl

missed_list_has_left_the_depot : get (shelf [] [] ((2 ∷ []) ∷ (9 ∷ []) ∷ [])) 4 1 ≡ (None, shelf (9 ∷ []) [] ((2 ∷ []) ∷ []))
missed_list_has_left_the_depot = refl

-- Put.

-- magazines of two entries, and a depot of two lists
abbrev tiny : Capacities
tiny = record { mag = 2; depot = 2; top = 1023 }

put_goes_last : put tiny (shelf (7 ∷ []) [] []) 5 ≡ shelf (7 ∷ 5 ∷ []) [] []
put_goes_last = refl

put_leaves_previous : put tiny (shelf (7 ∷ []) (1 ∷ []) []) 5 ≡ shelf (7 ∷ 5 ∷ []) (1 ∷ []) []
put_leaves_previous = refl

put_changes_places : put tiny (shelf (1 ∷ 2 ∷ []) (3 ∷ []) []) 4 ≡ shelf (3 ∷ 4 ∷ []) (1 ∷ 2 ∷ []) []
put_changes_places = refl

put_fills_the_depot : put tiny (shelf (5 ∷ 6 ∷ []) (1 ∷ 2 ∷ []) ((3 ∷ 4 ∷ []) ∷ [])) 7
    ≡ shelf (7 ∷ []) (1 ∷ 2 ∷ []) ((3 ∷ 4 ∷ []) ∷ (5 ∷ 6 ∷ []) ∷ [])
put_fills_the_depot = refl

depot_with_room_sends_nothing_out : sent_out tiny (shelf (5 ∷ 6 ∷ []) (1 ∷ 2 ∷ []) ((3 ∷ 4 ∷ []) ∷ [])) ≡ []
depot_with_room_sends_nothing_out = refl

full_depot_sends_out : sent_out tiny (shelf (5 ∷ 6 ∷ []) (1 ∷ 2 ∷ []) ((3 ∷ []) ∷ (4 ∷ []) ∷ [])) ≡ 5 ∷ 6 ∷ []
full_depot_sends_out = refl

room_sends_nothing_out : sent_out tiny (shelf (5 ∷ []) (1 ∷ 2 ∷ []) ((3 ∷ []) ∷ (4 ∷ []) ∷ [])) ≡ []
room_sends_nothing_out = refl

room_in_previous_sends_nothing_out : sent_out tiny (shelf (5 ∷ 6 ∷ []) (1 ∷ []) ((3 ∷ []) ∷ (4 ∷ []) ∷ [])) ≡ []
room_in_previous_sends_nothing_out = refl

put_leaves_a_full_depot : put tiny (shelf (5 ∷ 6 ∷ []) (1 ∷ 2 ∷ []) ((3 ∷ []) ∷ (4 ∷ []) ∷ [])) 7
    ≡ shelf (7 ∷ []) (1 ∷ 2 ∷ []) ((3 ∷ []) ∷ (4 ∷ []) ∷ [])
put_leaves_a_full_depot = refl

-- A magazine is full at 128 in the first profile, and at 127 in the second.

room_at_127 : put first_profile (shelf (replicate 127 1) [] []) 5 ≡ shelf (replicate 127 1 ++ 5 ∷ []) [] []
room_at_127 = refl

full_at_128 : put first_profile (shelf (replicate 128 1) [] []) 5 ≡ shelf (5 ∷ []) (replicate 128 1) []
full_at_128 = refl

previous_has_room_at_127 : put first_profile (shelf (replicate 128 1) (replicate 127 2) []) 5 ≡ shelf (replicate 127 2 ++ 5 ∷ []) (replicate 128 1) []
previous_has_room_at_127 = refl

previous_is_full_at_128 : put first_profile (shelf (replicate 128 1) (replicate 128 2) []) 5 ≡ shelf (5 ∷ []) (replicate 128 2) (replicate 128 1 ∷ [])
previous_is_full_at_128 = refl

room_at_126 : put (second_profile 0) (shelf (replicate 126 1) [] []) 5 ≡ shelf (replicate 126 1 ++ 5 ∷ []) [] []
room_at_126 = refl

full_at_127 : put (second_profile 0) (shelf (replicate 127 1) [] []) 5 ≡ shelf (5 ∷ []) (replicate 127 1) []
full_at_127 = refl

-- A depot takes 32 lists in the first profile, and as many as it says in the second.

room_for_the_32nd : put first_profile (shelf (replicate 128 1) (replicate 128 2) (replicate 31 (3 ∷ []))) 5
    ≡ shelf (5 ∷ []) (replicate 128 2) (replicate 31 (3 ∷ []) ++ replicate 128 1 ∷ [])
room_for_the_32nd = refl

none_for_the_33rd : put first_profile (shelf (replicate 128 1) (replicate 128 2) (replicate 32 (3 ∷ []))) 5
    ≡ shelf (5 ∷ []) (replicate 128 2) (replicate 32 (3 ∷ []))
none_for_the_33rd = refl

sent_out_behind_the_32nd : sent_out first_profile (shelf (replicate 128 1) (replicate 128 2) (replicate 32 (3 ∷ []))) ≡ replicate 128 1
sent_out_behind_the_32nd = refl

depot_of_0_takes_none : sent_out (second_profile 0) (shelf (replicate 127 1) (replicate 127 2) []) ≡ replicate 127 1
depot_of_0_takes_none = refl

depot_of_1_takes_one : put (second_profile 1) (shelf (replicate 127 1) (replicate 127 2) []) 5 ≡ shelf (5 ∷ []) (replicate 127 2) (replicate 127 1 ∷ [])
depot_of_1_takes_one = refl

-- All caches.

-- order 2 of a worker has this in loaded
abbrev fours : List ℕ → List Cache
fours loaded = no_magazines ∷ no_magazines ∷ record { loaded = loaded; previous = [] } ∷ no_magazines ∷ no_magazines ∷ no_magazines ∷ []

nothing_is_cached : new_caches 2 ≡ record {
  workers = replicate 6 (record { loaded = []; previous = [] }) ∷ replicate 6 (record { loaded = []; previous = [] }) ∷ [];
  depots = [] ∷ [] ∷ [] ∷ [] ∷ [] ∷ [] ∷ [];
}
nothing_is_cached = refl

put_by_order_and_worker : put_range first_profile (new_caches 2) 1 (at 8 4) (Some 2)
    ≡ record { workers = replicate 6 no_magazines ∷ fours (8 ∷ []) ∷ []; depots = replicate 6 [] }
put_by_order_and_worker = refl

put_in_their_order : put_all first_profile (new_caches 1) 0 (at 8 4 ∷ at 64 33 ∷ at 4 4 ∷ [])
    ≡ record { workers = fours (8 ∷ 4 ∷ []) ∷ []; depots = replicate 6 [] }
put_in_their_order = refl

freed_where_not_cached : freed_by_puts first_profile (new_caches 1) 0 (at 8 4 ∷ at 64 33 ∷ at 4 4 ∷ []) ≡ at 64 33 ∷ []
freed_where_not_cached = refl

-- both magazines of order 2 are full, the depot takes none: 8 and 12 are sent out, of four frames each
freed_where_sent_out :
    freed_by_puts (record { mag = 2; depot = 0; top = 1023 })
    (record { workers = (no_magazines ∷ no_magazines ∷ record { loaded = 8 ∷ 12 ∷ []; previous = 16 ∷ 20 ∷ [] } ∷ []) ∷ []; depots = replicate 6 [] })
    0 (at 24 4 ∷ [])
    ≡ at 8 4 ∷ at 12 4 ∷ []
freed_where_sent_out = refl

all_orders_are_emptied :
    without_entries (record { workers = fours (8 ∷ []) ∷ (record { loaded = 1 ∷ []; previous = 2 ∷ [] } ∷ []) ∷ []; depots = ((3 ∷ []) ∷ []) ∷ [] ∷ ((4 ∷ []) ∷ []) ∷ [] })
    ≡ record { workers = replicate 6 no_magazines ∷ (no_magazines ∷ []) ∷ []; depots = [] ∷ [] ∷ [] ∷ [] }
all_orders_are_emptied = refl

-- Take any.

takes_one_out : TakesOut 3 (1 ∷ 3 ∷ 2 ∷ []) (1 ∷ 2 ∷ [])
takes_one_out = record { place = 1; here = refl; others = refl }

takes_from_a_list : TakesOutOfDepot 3 ((1 ∷ []) ∷ (2 ∷ 3 ∷ []) ∷ []) ((1 ∷ []) ∷ (2 ∷ []) ∷ [])
takes_from_a_list = record { place = 1; left = 2 ∷ []; inside = omega arith; takes = record { place = 1; here = refl; others = refl }; others = refl }

emptied_list_goes : TakesOutOfDepot 3 ((1 ∷ []) ∷ (3 ∷ []) ∷ []) ((1 ∷ []) ∷ [])
emptied_list_goes = record { place = 1; left = []; inside = omega arith; takes = record { place = 0; here = refl; others = refl }; others = refl }

takes_none_of_none : TakesAny (new_caches 2) None (new_caches 2)
takes_none_of_none = (refl, refl)

takes_no_other : TakesOut 4 (1 ∷ []) [] → ⊥
takes_no_other t = nowhere t.place t.here
  where
    nowhere : (i : ℕ) → slice_get {X = ℕ} (1 ∷ []) i ≡ Some 4 → ⊥
    nowhere zero e = cc e
    nowhere (suc i) e = cc e

-- what is cached isn't left
takes_none_of_some : TakesAny (with_shelf (new_caches 1) 0 0 (shelf (3 ∷ []) [] [])) None (with_shelf (new_caches 1) 0 0 (shelf (3 ∷ []) [] [])) → ⊥
takes_none_of_some t = nothing (ap (λ (c : Caches). (cache_at c 0 0).loaded) t.0)
  where
    nothing : ◌≡◌ {A = List ℕ} [] (3 ∷ []) → ⊥
    nothing e = cc e
