-- Worked examples of flushes, their credits, and what a drain takes.
use Rattle.std.proofs.Common.{◌≡◌, false, true, List, [], ◌∷◌, refl}
use Rattle.iova_range.specs.declared.refusal.Refusal.TheVariants.{NoFlight}
use Rattle.iova_model.specs.declared.step.Step.TheVariants.{Unmap, Begin, End, Drain}
use Rattle.iova_model.specs.declared.step.Reply.TheVariants.{Queued, Begun, Ended, Drained, Refused}
use Rattle.iova_model.specs.declared.entry.Entry.{Entry}
use Rattle.iova_model.specs.Flushes.{Flushes, flushes_from, with_flight, after_end, flushed_front, unflushed_rest}
use Rattle.iova_model.proofs.ExampleWords.{replies, after, at, small, held, entry}

new_numbers : flushes_from 5 ≡ record { start = 5; finish = 5; owed = 0; newest = 5; good = 0; in_flight = [] }
new_numbers = refl

flush_began_too_early : replies held (Begin ∷ Unmap 0 1 1023 ∷ End 1 true ∷ Drain 0 0 ∷ Begin ∷ End 2 true ∷ Drain 0 0 ∷ [])
    ≡ Begun 1 ∷ Queued (at 1023 1) ∷ Ended ∷ Drained 0 ∷ Begun 2 ∷ Ended ∷ Drained 1 ∷ []
flush_began_too_early = refl

overlapping_flushes : replies held (Begin ∷ Unmap 0 1 1023 ∷ Begin ∷ End 2 true ∷ Drain 0 0 ∷ End 1 true ∷ Drain 0 0 ∷ [])
    ≡ Begun 1 ∷ Queued (at 1023 1) ∷ Begun 2 ∷ Ended ∷ Drained 0 ∷ Ended ∷ Drained 1 ∷ []
overlapping_flushes = refl

failed_flush_is_owed : replies held (Begin ∷ End 1 false ∷ Unmap 0 1 1023 ∷ Begin ∷ End 2 true ∷ Drain 0 0 ∷ [])
    ≡ Begun 1 ∷ Ended ∷ Queued (at 1023 1) ∷ Begun 2 ∷ Ended ∷ Drained 1 ∷ []
failed_flush_is_owed = refl

failed_then_newer : (after small (Begin ∷ Begin ∷ End 1 false ∷ End 2 true ∷ [])).flushes
    ≡ record { start = 2; finish = 2; owed = 0; newest = 2; good = 1; in_flight = [] }
failed_then_newer = refl

newer_then_failed : (after small (Begin ∷ Begin ∷ End 2 true ∷ End 1 false ∷ [])).flushes
    ≡ record { start = 2; finish = 1; owed = 1; newest = 2; good = 1; in_flight = [] }
newer_then_failed = refl

abbrev three : Flushes
three = with_flight (with_flight (with_flight (flushes_from 0)))

credits_begun : three ≡ record { start = 3; finish = 0; owed = 0; newest = 0; good = 0; in_flight = record { number = 1; credit = 1 } ∷ record { number = 2; credit = 1 } ∷ record { number = 3; credit = 1 } ∷ [] }
credits_begun = refl

credits_failed : after_end three 2 false ≡ record { start = 3; finish = 0; owed = 0; newest = 0; good = 0; in_flight = record { number = 1; credit = 1 } ∷ record { number = 3; credit = 2 } ∷ [] }
credits_failed = refl

credits_well : after_end (after_end three 2 false) 3 true ≡ record { start = 3; finish = 2; owed = 0; newest = 3; good = 1; in_flight = record { number = 1; credit = 1 } ∷ [] }
credits_well = refl

credits_owed : after_end (after_end (after_end three 2 false) 3 true) 1 false ≡ record { start = 3; finish = 2; owed = 1; newest = 3; good = 1; in_flight = [] }
credits_owed = refl

credits_passed_on : with_flight (after_end (after_end (after_end three 2 false) 3 true) 1 false)
    ≡ record { start = 4; finish = 2; owed = 0; newest = 3; good = 1; in_flight = record { number = 4; credit = 2 } ∷ [] }
credits_passed_on = refl

credits_settled : after_end (with_flight (after_end (after_end (after_end three 2 false) 3 true) 1 false)) 4 true
    ≡ record { start = 4; finish = 4; owed = 0; newest = 4; good = 2; in_flight = [] }
credits_settled = refl

oldest_fails : after_end three 1 false ≡ record { start = 3; finish = 0; owed = 0; newest = 0; good = 0; in_flight = record { number = 2; credit = 2 } ∷ record { number = 3; credit = 1 } ∷ [] }
oldest_fails = refl

newest_fails : after_end three 3 false ≡ record { start = 3; finish = 0; owed = 1; newest = 0; good = 0; in_flight = record { number = 1; credit = 1 } ∷ record { number = 2; credit = 1 } ∷ [] }
newest_fails = refl

both_are_owed : after_end (after_end three 3 false) 2 false ≡ record { start = 3; finish = 0; owed = 2; newest = 0; good = 0; in_flight = record { number = 1; credit = 1 } ∷ [] }
both_are_owed = refl

older_ends_after_newer : after_end (after_end three 3 true) 1 true ≡ record { start = 3; finish = 2; owed = 0; newest = 3; good = 2; in_flight = record { number = 2; credit = 1 } ∷ [] }
older_ends_after_newer = refl

owed_stays_at_a_good_end : after_end (after_end three 3 false) 1 true ≡ record { start = 3; finish = 1; owed = 1; newest = 1; good = 1; in_flight = record { number = 2; credit = 1 } ∷ [] }
owed_stays_at_a_good_end = refl

ends_once : replies small (Begin ∷ Begin ∷ End 1 true ∷ End 1 true ∷ End 0 false ∷ End 3 true ∷ End 2 false ∷ End 2 false ∷ [])
    ≡ Begun 1 ∷ Begun 2 ∷ Ended ∷ Refused NoFlight ∷ Refused NoFlight ∷ Refused NoFlight ∷ Ended ∷ Refused NoFlight ∷ []
ends_once = refl

-- What a drain takes: it stops at the first entry whose count isn't below the finish count, also where a later one's is.

abbrev waiting : List Entry
waiting = entry 10 1 0 ∷ entry 20 1 2 ∷ entry 30 1 1 ∷ []

taken_at_0 : flushed_front 0 waiting ≡ []
taken_at_0 = refl

taken_at_2 : flushed_front 2 waiting ≡ entry 10 1 0 ∷ []
taken_at_2 = refl

left_at_2 : unflushed_rest 2 waiting ≡ entry 20 1 2 ∷ entry 30 1 1 ∷ []
left_at_2 = refl

taken_at_3 : flushed_front 3 waiting ≡ waiting
taken_at_3 = refl

left_at_3 : unflushed_rest 3 waiting ≡ []
left_at_3 = refl
