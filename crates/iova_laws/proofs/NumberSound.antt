-- The numbers of the flushes stay sound.
use Rattle.std.proofs.Common.{ℕ, ◌≡◌, ◌+◌, ◌-◌, ◌≤◌, true, false, List, [], ◌∷◌, arith, length-append}
use Rattle.std.proofs.lemmas.Bool.Decides.{nat_tests}
use Rattle.iova_model.specs.declared.flight.Flight.{Flight}
use Rattle.iova_model.specs.Flushes.{is_in_flight, credit_of, NumbersRise, CreditsReach}
use Rattle.iova_model.specs.Laws.{NewFlushesAreSound, BeginsKeepFlushesSound, EndsKeepFlushesSound, OldestFlushReaches}
use Rattle.iova_laws.proofs.NumberCredits.{in_flight_above, in_flight_begun, numbers_push, numbers_without, numbers_passed, length-without_flight, length-passed_on, credit_sum-append, credits_without, credits_passed, reach_push, reach_without, reach_passed}

-- nothing is in flight, and nothing is owed
pub new_flushes_are_sound : NewFlushesAreSound
new_flushes_are_sound n fresh = record {
  balance = omega arith;
  rising = omega arith;
  reach = tt;
  newest = omega arith;
  finish = omega arith;
  good = omega arith;
  room = omega arith;
  worn = fresh;
}

-- the new credit and what was owed take the sum of all credits to the new number
pub begins_keep_flushes_sound : BeginsKeepFlushesSound
begins_keep_flushes_sound f sound room fresh =
    let g : Flight = record { number = f.start + 1; credit = 1 + f.owed } in
    record {
      balance = omega (arith, credit_sum-append f.in_flight (g ∷ []), sound.balance);
      rising = numbers_push 0 f.in_flight f.start (1 + f.owed) sound.rising;
      reach = reach_push f.newest f.finish f.in_flight g sound.reach (omega (arith, sound.balance)) (omega (arith, sound.balance));
      newest = omega (arith, sound.newest);
      finish = sound.finish;
      good = omega (arith, length-append f.in_flight (g ∷ []), sound.good);
      room = omega (arith, length-append f.in_flight (g ∷ []));
      worn = omega arith;
    }

-- one that ends well adds its credit to the finish count, and one that fails passes it on
pub ends_keep_flushes_sound : EndsKeepFlushesSound
ends_keep_flushes_sound f n true sound flies =
    let reached = reach_without f.newest f.finish n f.in_flight sound.reach flies in
    record {
      balance = omega (arith, credits_without n f.in_flight, sound.balance);
      rising = numbers_without n 0 f.in_flight f.start sound.rising;
      reach = reached.others;
      newest = omega (arith, sound.newest, in_flight_begun n 0 f.in_flight f.start flies sound.rising);
      finish = reached.within;
      good = omega (arith, length-without_flight n f.in_flight flies, sound.good);
      room = omega (arith, length-without_flight n f.in_flight flies, sound.room);
      worn = sound.worn;
    }
ends_keep_flushes_sound f n false sound flies = record {
  balance = omega (arith, credits_passed n f.in_flight, sound.balance);
  rising = numbers_passed n 0 f.in_flight f.start sound.rising;
  reach = reach_passed f.newest f.finish n f.in_flight sound.reach;
  newest = sound.newest;
  finish = sound.finish;
  good = omega (arith, length-passed_on n f.in_flight flies, sound.good);
  room = omega (arith, length-passed_on n f.in_flight flies, sound.room);
  worn = sound.worn;
}

-- the first flight's credit reaches its number
first_reaches : (n newest finish : ℕ) (fs : List Flight) (top : ℕ) → CreditsReach newest finish fs → NumbersRise (n - 1) fs top → is_in_flight n fs ≡ true → n ≤ finish + credit_of n fs
first_reaches n newest finish [] top reach rise flies = absurd cc
first_reaches n newest finish (f ∷ fs) top reach rise flies = grind (arith, nat_tests, in_flight_above n f.number fs top)

-- so the oldest takes the finish count there
pub oldest_flush_reaches : OldestFlushReaches
oldest_flush_reaches = λ f n sound flies rise. first_reaches n f.newest f.finish f.in_flight f.start sound.reach rise flies
