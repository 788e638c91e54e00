-- Worked examples: the numbers and names of all refusals, the sizes of requests, all limits, and the bounds of both profiles.
use Rattle.std.proofs.Common.{◌≡◌, ◌≤◌, List, [], ◌∷◌, Some, None, true, false, inl, inr, refl, ap, arith, map}
use Rattle.std.specs.Prelude.{codes}
use Rattle.iova_range.specs.declared.refusal.Refusal.{Refusal}
use Rattle.iova_range.specs.declared.refusal.Refusal.TheVariants.{Zero, TooBig, NoClient, Closing, HoldingsFull, NoSpace, RingFull, NotHeld, Taken, BadWindow, WindowsFull, NoWorker, FlightsFull, NoFlight, Worn, ClientsFull, NoMemory, SinkFault, LinkFault, BadLine, TooMany, BadTrace, NoDomain, Twice, BadProfile}
use Rattle.iova_range.specs.declared.limits.TheConstants.{MAX_WORKERS, MAX_CLIENTS, MAX_HOLDINGS, MAX_WINDOWS, MAX_FRAMES, MAX_FLIGHTS, MAX_SERIAL, SAC_LIMIT, ORDERS, MAGAZINE, SMALL_MAGAZINE, MAX_DEPOT, RING_SLOTS, MAX_ENTRIES, MAX_LINE, MAX_STEPS, MAX_READS, MAX_DOMAINS, MAX_REQUESTS, MAX_SESSION_READS, MAX_LISTED, MAX_RUN, MAX_SESSIONS, MAX_SESSION_REQUESTS, MAX_IDLE, FRAME_BYTES, MAX_TRACE_LINE, LAST_DOMAIN_ID, TALLY_PARTS, SEAT_PARTS, DAEMON_DESCRIPTORS, MAX_PAIRS, RECORDED_STEPS, MAX_RECORDED_STEPS, FLUSH_PAUSE, ACCEPT_PAUSE, MAX_ACCEPT_PAUSE, MAX_SINK_TIMEOUT, SINK_TIMEOUT, RETRY_PAUSE, MAX_PEER_WAIT, CONNECT_LOOK, CONNECT_PAUSE, MAX_CONNECT_PAUSE, MAX_FLUSH_PAUSE, MAX_POSTS, DEFAULT_CLIENTS, CONTROL_TIMEOUT, MAX_ANSWER_TIMEOUT, MAX_REFUSAL, MAX_GRANULE, MAX_WATCH_PAUSE}
use Rattle.iova_range.specs.Frames.{Frames, covers, meets, join}
use Rattle.iova_range.specs.Sizes.{need, align_of, order_of}
use Rattle.iova_range.specs.Bounds.{Capacities, first_profile, second_profile, IsProfile, AreBounds}
use Rattle.iova_range.specs.Refusals.{refusal_number, refusal_name}

-- Refusals.

-- all of them
abbrev refusals : List Refusal
refusals =
    Zero ∷ TooBig ∷ NoClient ∷ Closing ∷ HoldingsFull ∷ NoSpace ∷ RingFull ∷ NotHeld ∷ Taken ∷ BadWindow ∷ WindowsFull ∷ NoWorker
    ∷ FlightsFull ∷ NoFlight ∷ Worn ∷ ClientsFull ∷ NoMemory ∷ SinkFault ∷ LinkFault ∷ BadLine ∷ TooMany ∷ BadTrace ∷ NoDomain
    ∷ Twice ∷ BadProfile ∷ []

numbers_of_refusals : map refusal_number refusals
    ≡ 1 ∷ 2 ∷ 3 ∷ 4 ∷ 5 ∷ 6 ∷ 7 ∷ 8 ∷ 9 ∷ 10 ∷ 11 ∷ 12 ∷ 13 ∷ 14 ∷ 15 ∷ 16 ∷ 17 ∷ 18 ∷ 19 ∷ 20 ∷ 21 ∷ 22 ∷ 23 ∷ 24 ∷ 25 ∷ []
numbers_of_refusals = refl

names_of_refusals : map refusal_name refusals
    ≡ codes "Zero" ∷ codes "TooBig" ∷ codes "NoClient" ∷ codes "Closing" ∷ codes "HoldingsFull" ∷ codes "NoSpace" ∷ codes "RingFull"
    ∷ codes "NotHeld" ∷ codes "Taken" ∷ codes "BadWindow" ∷ codes "WindowsFull" ∷ codes "NoWorker" ∷ codes "FlightsFull"
    ∷ codes "NoFlight" ∷ codes "Worn" ∷ codes "ClientsFull" ∷ codes "NoMemory" ∷ codes "SinkFault" ∷ codes "LinkFault"
    ∷ codes "BadLine" ∷ codes "TooMany" ∷ codes "BadTrace" ∷ codes "NoDomain" ∷ codes "Twice" ∷ codes "BadProfile" ∷ []
names_of_refusals = refl

-- Sizes.

needs : map need (1 ∷ 2 ∷ 3 ∷ 4 ∷ 5 ∷ 9 ∷ 16 ∷ 17 ∷ 31 ∷ 32 ∷ 33 ∷ 1048576 ∷ []) ≡ 1 ∷ 2 ∷ 4 ∷ 4 ∷ 8 ∷ 16 ∷ 16 ∷ 32 ∷ 32 ∷ 32 ∷ 33 ∷ 1048576 ∷ []
needs = refl

alignments : map align_of (1 ∷ 2 ∷ 3 ∷ 4 ∷ 5 ∷ 32 ∷ 33 ∷ 64 ∷ 65 ∷ 1000 ∷ 524289 ∷ 1048576 ∷ [])
    ≡ 1 ∷ 2 ∷ 4 ∷ 4 ∷ 8 ∷ 32 ∷ 64 ∷ 64 ∷ 128 ∷ 1024 ∷ 1048576 ∷ 1048576 ∷ []
alignments = refl

orders_of_sizes : map order_of (1 ∷ 2 ∷ 4 ∷ 8 ∷ 16 ∷ 32 ∷ []) ≡ Some 0 ∷ Some 1 ∷ Some 2 ∷ Some 3 ∷ Some 4 ∷ Some 5 ∷ []
orders_of_sizes = refl

sizes_without_order : map order_of (0 ∷ 3 ∷ 5 ∷ 31 ∷ 33 ∷ 64 ∷ 128 ∷ []) ≡ None ∷ None ∷ None ∷ None ∷ None ∷ None ∷ None ∷ []
sizes_without_order = refl

-- Ranges.

-- frames 10 to 20
abbrev eleven : Frames
eleven = record { lo = 10; len = 11 }

covers_its_ends : map (λ frame. covers frame eleven) (9 ∷ 10 ∷ 20 ∷ 21 ∷ []) ≡ false ∷ true ∷ true ∷ false ∷ []
covers_its_ends = refl

-- one frame each: below, the first, the last, after
meets_at_its_ends : map (λ lo. meets eleven (record { lo = lo; len = 1 })) (9 ∷ 10 ∷ 20 ∷ 21 ∷ []) ≡ false ∷ true ∷ true ∷ false ∷ []
meets_at_its_ends = refl

meets_what_it_is_inside : meets (record { lo = 15; len = 1 }) eleven ≡ true
meets_what_it_is_inside = refl

-- with a gap of 4 frames, and with what is inside it
joins_over_a_gap : map (join eleven) (record { lo = 25; len = 2 } ∷ record { lo = 15; len = 1 } ∷ []) ≡ record { lo = 10; len = 17 } ∷ eleven ∷ []
joins_over_a_gap = refl

-- Limits.

limits_of_a_domain : MAX_WORKERS ∷ MAX_CLIENTS ∷ MAX_HOLDINGS ∷ MAX_WINDOWS ∷ MAX_FRAMES ∷ MAX_FLIGHTS ∷ MAX_SERIAL ∷ SAC_LIMIT ∷ []
    ≡ 16 ∷ 1024 ∷ 4096 ∷ 64 ∷ 1048576 ∷ 32 ∷ 9223372036854775807 ∷ 1048575 ∷ []
limits_of_a_domain = refl

limits_of_caches_and_rings : ORDERS ∷ MAGAZINE ∷ SMALL_MAGAZINE ∷ MAX_DEPOT ∷ RING_SLOTS ∷ MAX_ENTRIES ∷ [] ≡ 6 ∷ 128 ∷ 127 ∷ 32 ∷ 256 ∷ 255 ∷ []
limits_of_caches_and_rings = refl

limits_of_traces_and_sessions :
    MAX_LINE ∷ MAX_STEPS ∷ MAX_READS ∷ MAX_DOMAINS ∷ MAX_REQUESTS ∷ MAX_SESSION_READS ∷ MAX_LISTED ∷ MAX_RUN ∷ MAX_SESSIONS ∷ []
    ≡ 128 ∷ 1000000 ∷ 134217728 ∷ 8 ∷ 65536 ∷ 1048576 ∷ 1048576 ∷ 16 ∷ 65536 ∷ []
limits_of_traces_and_sessions = refl

limits_of_served_sessions : MAX_SESSION_REQUESTS ∷ MAX_IDLE ∷ [] ≡ 9223372036854775807 ∷ 86400 ∷ []
limits_of_served_sessions = refl

limits_of_kernel_traces : FRAME_BYTES ∷ MAX_GRANULE ∷ MAX_TRACE_LINE ∷ LAST_DOMAIN_ID ∷ [] ≡ 4096 ∷ 2097152 ∷ 1024 ∷ 65535 ∷ []
limits_of_kernel_traces = refl

limits_of_daemons : TALLY_PARTS ∷ SEAT_PARTS ∷ DAEMON_DESCRIPTORS ∷ MAX_PAIRS ∷ RECORDED_STEPS ∷ MAX_RECORDED_STEPS ∷ FLUSH_PAUSE ∷ ACCEPT_PAUSE ∷ MAX_ACCEPT_PAUSE ∷ []
    ≡ 256 ∷ 2 ∷ 32 ∷ 4000000 ∷ 100000 ∷ 1000000 ∷ 10 ∷ 10 ∷ 1000 ∷ []
limits_of_daemons = refl

limits_of_answering_sinks : MAX_SINK_TIMEOUT ∷ SINK_TIMEOUT ∷ RETRY_PAUSE ∷ MAX_PEER_WAIT ∷ CONNECT_LOOK ∷ CONNECT_PAUSE ∷ MAX_CONNECT_PAUSE ∷ MAX_FLUSH_PAUSE ∷ []
    ≡ 3600 ∷ 10 ∷ 1000 ∷ 3600 ∷ 20 ∷ 10 ∷ 1000 ∷ 1000 ∷ []
limits_of_answering_sinks = refl

limits_of_clients_and_control : MAX_POSTS ∷ DEFAULT_CLIENTS ∷ CONTROL_TIMEOUT ∷ MAX_ANSWER_TIMEOUT ∷ MAX_WATCH_PAUSE ∷ MAX_REFUSAL ∷ []
    ≡ 1024 ∷ 64 ∷ 10 ∷ 86400 ∷ 3600 ∷ 25 ∷ []
limits_of_clients_and_control = refl

-- Profiles and bounds.

kernel_profile : first_profile ≡ record { mag = 128; depot = 32; top = 68719476735 }
kernel_profile = refl

own_profile : second_profile 7 ≡ record { mag = 127; depot = 7; top = 1099511627775 }
own_profile = refl

depot_of_0 : IsProfile (second_profile 0)
depot_of_0 = inr (omega arith, refl)

depot_of_32 : IsProfile (second_profile 32)
depot_of_32 = inr (omega arith, refl)

no_depot_of_33 : IsProfile (second_profile 33) → ⊥
no_depot_of_33 (inl e) = absurd (omega (arith, ap (λ (p : Capacities). p.depot) e))
no_depot_of_33 (inr h) = let deep : 33 ≤ 32 = h.0 in absurd (omega arith)

one_frame : AreBounds first_profile 1 1
one_frame = record { above_zero = omega arith; in_order = omega arith; below_top = omega arith }

no_frame_zero : AreBounds first_profile 0 5 → ⊥
no_frame_zero b = let h : 1 ≤ 0 = b.above_zero in absurd (omega arith)

no_bounds_out_of_order : AreBounds first_profile 6 5 → ⊥
no_bounds_out_of_order b = let h : 6 ≤ 5 = b.in_order in absurd (omega arith)

last_of_the_first_profile : AreBounds first_profile 1 68719476735
last_of_the_first_profile = record { above_zero = omega arith; in_order = omega arith; below_top = omega arith }

above_the_first_profile : AreBounds first_profile 1 68719476736 → ⊥
above_the_first_profile b = let h : 68719476736 ≤ 68719476735 = b.below_top in absurd (omega arith)

last_of_the_second_profile : AreBounds (second_profile 0) 1 1099511627775
last_of_the_second_profile = record { above_zero = omega arith; in_order = omega arith; below_top = omega arith }

above_the_second_profile : AreBounds (second_profile 32) 1 1099511627776 → ⊥
above_the_second_profile b = let h : 1099511627776 ≤ 1099511627775 = b.below_top in absurd (omega arith)
