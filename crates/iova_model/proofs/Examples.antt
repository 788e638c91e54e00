-- Worked examples of requests, windows and closing: what the definitions compute, against replies worked out by hand.
use Rattle.std.proofs.Common.{◌≡◌, ◌-◌, false, true, [], ◌∷◌, refl}
use Rattle.std.specs.Prelude.{◌^◌}
use Rattle.iova_range.specs.declared.refusal.Refusal.TheVariants.{Zero, NoSpace, Closing, NoClient, Taken, BadWindow}
use Rattle.iova_model.specs.declared.step.Step.TheVariants.{Reserve, Open, Alloc, Unmap, Begin, End, Drain, Close, CloseOne}
use Rattle.iova_model.specs.declared.step.Reply.TheVariants.{Opened, Given, Queued, Begun, Ended, Drained, Marked, Reserved, Empty, Refused}
use Rattle.iova_model.specs.declared.step.Point.TheVariants.{Never}
use Rattle.iova_model.specs.State.{State}
use Rattle.iova_model.specs.Next.{next}
use Rattle.iova_model.proofs.ExampleWords.{replies, after, domain, deep_domain, at, small, held, cached}

first_path : replies small (Open 0 false ∷ Alloc 0 1 1 1023 ∷ Alloc 0 1 3 1023 ∷ Alloc 0 1 33 1023 ∷ Alloc 0 1 1 15 ∷ [])
    ≡ Opened 1 ∷ Given (at 1023 1) ∷ Given (at 1016 4) ∷ Given (at 960 33) ∷ Given (at 15 1) ∷ []
first_path = refl

frame_zero_is_out : replies small (Open 0 false ∷ Alloc 0 1 1023 1023 ∷ []) ≡ Opened 1 ∷ Refused NoSpace ∷ []
frame_zero_is_out = refl

aligned_to_its_size : replies (domain 1 2047 1) (Open 0 false ∷ Alloc 0 1 1024 2047 ∷ []) ≡ Opened 1 ∷ Given (at 1024 1024) ∷ []
aligned_to_its_size = refl

uncached_size : replies small (Open 0 false ∷ Alloc 0 1 33 1023 ∷ Unmap 0 1 960 ∷ Begin ∷ End 1 true ∷ Drain 0 0 ∷ Alloc 0 1 33 1023 ∷ [])
    ≡ Opened 1 ∷ Given (at 960 33) ∷ Queued (at 960 33) ∷ Begun 1 ∷ Ended ∷ Drained 1 ∷ Given (at 960 33) ∷ []
uncached_size = refl

reuse_after_flush : replies (domain 1 1 1) (Open 0 false ∷ Alloc 0 1 1 1 ∷ Unmap 0 1 1 ∷ Alloc 0 1 1 1 ∷ Begin ∷ End 1 true ∷ Drain 0 0 ∷ Alloc 0 1 1 1 ∷ [])
    ≡ Opened 1 ∷ Given (at 1 1) ∷ Queued (at 1 1) ∷ Refused NoSpace ∷ Begun 1 ∷ Ended ∷ Drained 1 ∷ Given (at 1 1) ∷ []
reuse_after_flush = refl

limit_passes_the_magazine : replies held (Unmap 0 1 1023 ∷ Begin ∷ End 1 true ∷ Drain 0 0 ∷ Alloc 0 1 1 500 ∷ Alloc 0 1 1 1023 ∷ [])
    ≡ Queued (at 1023 1) ∷ Begun 1 ∷ Ended ∷ Drained 1 ∷ Given (at 500 1) ∷ Given (at 1023 1) ∷ []
limit_passes_the_magazine = refl

-- frames 1021, 1022 and 1023 are in a magazine, in this order
abbrev three_cached : State
three_cached = after small (Open 0 false ∷ Alloc 0 1 1 1021 ∷ Alloc 0 1 1 1022 ∷ Alloc 0 1 1 1023 ∷ Unmap 0 1 1021 ∷ Unmap 0 1 1022 ∷ Unmap 0 1 1023 ∷ Begin ∷ End 1 true ∷ Drain 0 0 ∷ [])

newest_takes_the_place : replies three_cached (Alloc 0 1 1 1021 ∷ Alloc 0 1 1 1023 ∷ Alloc 0 1 1 1023 ∷ [])
    ≡ Given (at 1021 1) ∷ Given (at 1022 1) ∷ Given (at 1023 1) ∷ []
newest_takes_the_place = refl

last_frame_above_the_limit :
    replies small (Open 0 false ∷ Alloc 0 1 2 1023 ∷ Unmap 0 1 1022 ∷ Begin ∷ End 1 true ∷ Drain 0 0 ∷ Alloc 0 1 2 1022 ∷ Alloc 0 1 2 1023 ∷ [])
    ≡ Opened 1 ∷ Given (at 1022 2) ∷ Queued (at 1022 2) ∷ Begun 1 ∷ Ended ∷ Drained 1 ∷ Given (at 1020 2) ∷ Given (at 1022 2) ∷ []
last_frame_above_the_limit = refl

caches_emptied : (next cached (Alloc 0 1 2 3) Never).reply ≡ Given (at 2 2)
caches_emptied = refl

single_and_dual_address_cycle :
    replies (domain 1 1048675 1) (Open 0 true ∷ Open 0 false ∷ Alloc 0 1 1 1048675 ∷ Alloc 0 2 1 1048675 ∷ Reserve 10 20 ∷ Reserve 15 30 ∷ Reserve 12 14 ∷ Reserve 31 40 ∷ Reserve 1048575 1048575 ∷ Reserve 0 5 ∷ [])
    ≡ Opened 1 ∷ Opened 2 ∷ Given (at 1048575 1) ∷ Given (at 1048675 1) ∷ Reserved (at 10 11) ∷ Reserved (at 10 21) ∷ Reserved (at 10 21) ∷ Reserved (at 31 10) ∷ Refused Taken ∷ Refused BadWindow ∷ []
single_and_dual_address_cycle = refl

windows_and_fit :
    replies small (Reserve 1020 1023 ∷ Open 0 false ∷ Alloc 0 1 4 1023 ∷ Alloc 0 1 1 1023 ∷ Reserve 1015 1015 ∷ Reserve 20 10 ∷ Reserve 0 5 ∷ Reserve 5 1024 ∷ Reserve 10 20 ∷ Reserve 15 30 ∷ Reserve 12 14 ∷ Reserve 31 40 ∷ [])
    ≡ Reserved (at 1020 4) ∷ Opened 1 ∷ Given (at 1016 4) ∷ Given (at 1015 1) ∷ Refused Taken ∷ Refused BadWindow ∷ Refused BadWindow ∷ Refused BadWindow ∷ Reserved (at 10 11) ∷ Reserved (at 10 21) ∷ Reserved (at 10 21) ∷ Reserved (at 31 10) ∷ []
windows_and_fit = refl

windows_that_touch_stay_apart : replies small (Reserve 21 30 ∷ Reserve 10 20 ∷ Reserve 31 40 ∷ [])
    ≡ Reserved (at 21 10) ∷ Reserved (at 10 11) ∷ Reserved (at 31 10) ∷ []
windows_that_touch_stay_apart = refl

two_owners :
    replies (domain 1 1023 2) (Open 0 false ∷ Open 1 false ∷ Alloc 0 2 1 9 ∷ Alloc 1 2 1 9 ∷ Close 1 2 ∷ Close 1 2 ∷ Alloc 1 2 0 9 ∷ Alloc 1 2 1 9 ∷ [])
    ≡ Opened 1 ∷ Opened 2 ∷ Refused NoClient ∷ Given (at 9 1) ∷ Marked 1 ∷ Marked 1 ∷ Refused Zero ∷ Refused Closing ∷ []
two_owners = refl

closing : replies held (Alloc 0 1 1 15 ∷ Close 0 1 ∷ Alloc 0 1 1 9 ∷ CloseOne 0 1 ∷ CloseOne 0 1 ∷ CloseOne 0 1 ∷ CloseOne 0 1 ∷ [])
    ≡ Given (at 15 1) ∷ Marked 2 ∷ Refused Closing ∷ Queued (at 15 1) ∷ Queued (at 1023 1) ∷ Empty ∷ Refused NoClient ∷ []
closing = refl

wide_frames : replies (deep_domain 1 (2 ^ 40 - 1) 0) (Open 0 false ∷ Alloc 0 1 1 (2 ^ 40 - 1) ∷ []) ≡ Opened 1 ∷ Given (at (2 ^ 40 - 1) 1) ∷ []
wide_frames = refl
