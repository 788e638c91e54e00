-- What a round of tries that ends all supposes, in small domains.
use Rattle.std.proofs.Common.{ℕ, ◌≡◌, true, false, List, [], ◌∷◌, ◌++◌, refl, arith}
use Rattle.std.specs.List.{AllByRecursion}
use Rattle.iova_range.specs.Frames.{Frames}
use Rattle.iova_range.specs.Bounds.{first_profile}
use Rattle.iova_model.specs.Clients.{Client}
use Rattle.iova_model.specs.Flushes.{with_flight}
use Rattle.iova_model.specs.State.{State, new_domain}
use Rattle.iova_model.specs.Next.{with_flushes}
use Rattle.iova_sink.specs.Calls.{Call, failed_in, failed_calls}
use Rattle.iova_keep.specs.Views.{SeatState, new_seat}
use Rattle.iova_session.specs.Gone.{IsAlone, HasNumbers, NoneFailed}
use Rattle.iova_session.proofs.LoneEnds.{failed_append}

abbrev client : ℕ → ℕ → List Frames → Client
client id worker holdings = record { id = id; worker = worker; sac = false; closing = true; holdings = holdings }

abbrev frame : ℕ → Frames
frame lo = record { lo = lo; len = 1 }

-- two workers; client 1 is worker 0's and holds two ranges, and client 2 is worker 1's and holds these
abbrev domain : List Frames → State
domain others = record (new_domain (record { start = 1; last = 1023; profile = first_profile }) 2) {
  clients = client 1 0 (frame 1022 ∷ frame 1023 ∷ []) ∷ client 2 1 others ∷ [];
  serial = 2;
}

abbrev seat : SeatState
seat = record (new_seat 0) { held = record { count = 2; frames = 2; sum_lo = 2045 } }

-- where the other worker's client holds nothing, worker 0 is alone with client 1, which waits
alone : IsAlone seat (1 ∷ []) (domain [])
alone = record {
  holders = ((λ some. (refl, (0, omega arith, refl))), ((λ some. absurd (some refl)), tt));
  shares = record { count = omega arith; frames = omega arith; sum_lo = omega arith };
  quiet = refl;
}

-- a new seat is alone at a new domain
alone_at_first : IsAlone (new_seat 0) [] (new_domain (record { start = 1; last = 1023; profile = first_profile }) 2)
alone_at_first = record {
  holders = tt;
  shares = record { count = omega arith; frames = omega arith; sum_lo = omega arith };
  quiet = refl;
}

numbered : HasNumbers 4096 (domain [])
numbered = record { room = omega arith; flushes = omega arith }

-- it isn't where that one holds a range, even if it were named
not_alone : IsAlone seat (1 ∷ 2 ∷ []) (domain (frame 7 ∷ [])) → ⊥
not_alone a = let other = (a.holders.1.0 (λ e. cc)).0 in omega (arith, other)

-- nor where client 1 doesn't wait
not_waiting : IsAlone seat [] (domain []) → ⊥
not_waiting a = let there = (a.holders.0 (λ e. cc)).1.1 in omega (arith, there)

-- nor where a flush is in flight
not_quiet : IsAlone seat (1 ∷ []) (with_flushes (domain []) (with_flight (domain []).flushes)) → ⊥
not_quiet a = let none = a.quiet in cc

-- None failed where each call that was appended went well.
none_failed : (calls : List Call) → AllByRecursion (λ c. failed_in c ≡ 0) calls → failed_calls calls ≡ 0
none_failed [] each = refl
none_failed (c ∷ cs) each = let first = each.0 in let rest = none_failed cs each.1 in omega (arith, first, rest)

all_well : (before calls : List Call) → AllByRecursion (λ c. failed_in c ≡ 0) calls → NoneFailed before (before ++ calls)
all_well before calls each = let sum = failed_append before calls in let none = none_failed calls each in omega (arith, sum, none)
