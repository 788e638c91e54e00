-- Worked examples of the growths that may be refused memory, and of what is left then.
use Rattle.std.proofs.Common.{ℕ, ◌≡◌, Bool, false, true, List, [], ◌∷◌, None, refl, map}
use Rattle.iova_range.specs.declared.refusal.Refusal.TheVariants.{NoSpace, NoMemory}
use Rattle.iova_model.specs.declared.step.Step.{Step}
use Rattle.iova_model.specs.declared.step.Step.TheVariants.{Reserve, Open, Alloc}
use Rattle.iova_model.specs.declared.step.Reply.{Reply}
use Rattle.iova_model.specs.declared.step.Reply.TheVariants.{Opened, Given, Reserved, Refused}
use Rattle.iova_model.specs.declared.step.Point.{Point}
use Rattle.iova_model.specs.declared.step.Point.TheVariants.{Never, Once, Ledger, First, Second, Last}
use Rattle.iova_model.specs.declared.place.Place.TheVariants as place
use Rattle.iova_model.specs.Caches.{new_caches, with_shelf}
use Rattle.iova_model.specs.State.{State, place_of}
use Rattle.iova_model.specs.Next.{At, Nowhere, OutOfMemory, best_place, or_second, walk, next}
use Rattle.iova_model.proofs.ExampleWords.{after, domain, at, small, cached, shelf, client}

-- the replies to a step whose growth is refused at Never, Once, Ledger, First, Second and Last
abbrev at_points : State → Step → List Reply
at_points s step = map (λ m. (next s step m).reply) (Never ∷ Once ∷ Ledger ∷ First ∷ Second ∷ Last ∷ [])

-- The one growth of Reserve and Open.

points_of_reserve : at_points small (Reserve 10 20)
    ≡ Reserved (at 10 11) ∷ Refused NoMemory ∷ Reserved (at 10 11) ∷ Reserved (at 10 11) ∷ Reserved (at 10 11) ∷ Reserved (at 10 11) ∷ []
points_of_reserve = refl

points_of_open : at_points small (Open 0 true) ≡ Opened 1 ∷ Refused NoMemory ∷ Opened 1 ∷ Opened 1 ∷ Opened 1 ∷ Opened 1 ∷ []
points_of_open = refl

refused_window : next small (Reserve 10 20) Once ≡ record { reply = Refused NoMemory; state = small }
refused_window = refl

refused_client : next small (Open 0 true) Once ≡ record { reply = Refused NoMemory; state = small }
refused_client = refl

-- The growths of Alloc: the ledger's comes before the walk, and a request that the cache answers has no other.

-- worker 0 has frame 3 in a magazine, in these bounds; client 1 is first sought a place below 4 GiB, or not
abbrev one_cached : ℕ → Bool → State
one_cached last sac = record (domain 1 last 1) {
  clients = record { id = 1; worker = 0; sac = sac; closing = false; holdings = [] } ∷ [];
  serial = 1;
  caches = with_shelf (new_caches 1) 0 0 (shelf (3 ∷ []) [] []);
}

points_of_a_cached_range : at_points (one_cached 1023 false) (Alloc 0 1 1 1023)
    ≡ Given (at 3 1) ∷ Given (at 3 1) ∷ Refused NoMemory ∷ Given (at 3 1) ∷ Given (at 3 1) ∷ Given (at 3 1) ∷ []
points_of_a_cached_range = refl

points_of_the_only_try : at_points (one_cached 1023 false) (Alloc 0 1 1 2)
    ≡ Given (at 2 1) ∷ Given (at 2 1) ∷ Refused NoMemory ∷ Given (at 2 1) ∷ Refused NoMemory ∷ Given (at 2 1) ∷ []
points_of_the_only_try = refl

-- two frames fit only without the cached one
points_after_emptying : at_points (one_cached 3 false) (Alloc 0 1 2 3)
    ≡ Given (at 2 2) ∷ Given (at 2 2) ∷ Refused NoMemory ∷ Given (at 2 2) ∷ Given (at 2 2) ∷ Refused NoMemory ∷ []
points_after_emptying = refl

-- that domain with nothing cached
abbrev none_cached : ℕ → Bool → State
none_cached last sac = record (one_cached last sac) { caches = new_caches 1 }

points_of_the_low_try : at_points (none_cached 1048675 true) (Alloc 0 1 1 1048576)
    ≡ Given (at 1048575 1) ∷ Given (at 1048575 1) ∷ Refused NoMemory ∷ Refused NoMemory ∷ Given (at 1048575 1) ∷ Given (at 1048575 1) ∷ []
points_of_the_low_try = refl

points_without_a_low_try : at_points (none_cached 1048675 true) (Alloc 0 1 1 1048575)
    ≡ Given (at 1048575 1) ∷ Given (at 1048575 1) ∷ Refused NoMemory ∷ Given (at 1048575 1) ∷ Refused NoMemory ∷ Given (at 1048575 1) ∷ []
points_without_a_low_try = refl

points_of_another_client : at_points (none_cached 1048675 false) (Alloc 0 1 1 1048675)
    ≡ Given (at 1048675 1) ∷ Given (at 1048675 1) ∷ Refused NoMemory ∷ Given (at 1048675 1) ∷ Refused NoMemory ∷ Given (at 1048675 1) ∷ []
points_of_another_client = refl

-- both tries end at frame 3, so the low one finds nothing and the second one empties
points_of_the_second_try : at_points (one_cached 3 true) (Alloc 0 1 2 1048576)
    ≡ Given (at 2 2) ∷ Given (at 2 2) ∷ Refused NoMemory ∷ Given (at 2 2) ∷ Given (at 2 2) ∷ Refused NoMemory ∷ []
points_of_the_second_try = refl

-- A low try that finds nothing empties nothing: the second one is the try that a client has that isn't `sac`. (33 frames
-- aren't cached.)
low_try_finds_nothing : (s : State) (w : ℕ) (m : Point) → best_place s 33 1048575 ≡ None → walk s w true 33 1048576 m ≡ walk s w false 33 1048576 m
low_try_finds_nothing s w m none = rw none refl

second_growth_of_a_second_try : or_second Nowhere small 0 33 1023 Second ≡ record { found = OutOfMemory; state = small }
second_growth_of_a_second_try = refl

first_growth_of_a_second_try : or_second Nowhere small 0 33 1023 First ≡ record { found = At 960; state = small }
first_growth_of_a_second_try = refl

-- What is left where memory is refused: the caches as the walk had them, and the client without the range.

ledger_refused : next (one_cached 1023 false) (Alloc 0 1 1 1023) Ledger ≡ record { reply = Refused NoMemory; state = one_cached 1023 false }
ledger_refused = refl

ledger_refused_keeps_the_caches : place_of (next (after cached (Open 0 false ∷ [])) (Alloc 0 2 2 3) Ledger).state 3 ≡ place.Magazine 0
ledger_refused_keeps_the_caches = refl

-- that domain with frame 3 in `previous`
abbrev in_previous : State
in_previous = record (one_cached 1023 false) { caches = with_shelf (new_caches 1) 0 0 (shelf [] (3 ∷ []) []) }

-- the miss has made previous loaded
tree_refused_after_a_miss : next in_previous (Alloc 0 1 1 2) Second ≡ record { reply = Refused NoMemory; state = one_cached 1023 false }
tree_refused_after_a_miss = refl

tree_asked_after_a_miss : next in_previous (Alloc 0 1 1 2) Never
    ≡ record { reply = Given (at 2 1); state = record (one_cached 1023 false) { clients = client 1 (at 2 1 ∷ []) ∷ [] } }
tree_asked_after_a_miss = refl

refused_after_emptying : next (one_cached 3 false) (Alloc 0 1 2 3) Last
    ≡ record { reply = Refused NoMemory; state = none_cached 3 false }
refused_after_emptying = refl

given_after_emptying : next (one_cached 3 false) (Alloc 0 1 2 3) Never
    ≡ record { reply = Given (at 2 2); state = record (none_cached 3 false) { clients = client 1 (at 2 2 ∷ []) ∷ [] } }
given_after_emptying = refl

-- four frames don't fit in 1 to 3
no_space_has_emptied : next (one_cached 3 false) (Alloc 0 1 4 3) Never
    ≡ record { reply = Refused NoSpace; state = none_cached 3 false }
no_space_has_emptied = refl

caches_emptied_in_vain : (next cached (Alloc 0 1 2 3) Last).reply ≡ Refused NoMemory
caches_emptied_in_vain = refl

caches_emptied_stay_empty : place_of (next cached (Alloc 0 1 2 3) Last).state 3 ≡ place.Free
caches_emptied_stay_empty = refl

asked_again_with_memory : (next (next cached (Alloc 0 1 2 3) Last).state (Alloc 0 1 2 3) Never).reply ≡ Given (at 2 2)
asked_again_with_memory = refl

first_try_refused : (next (after (domain 1 1048675 1) (Open 0 true ∷ [])) (Alloc 0 1 1 1048675) First).reply ≡ Refused NoMemory
first_try_refused = refl
