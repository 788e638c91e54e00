-- Worked examples of what no valid state has, and of lists of replies that the law of reuse refuses.
use Rattle.std.proofs.Common.{ℕ, zero, suc, ◌≡◌, ◌≤◌, ◌<◌, Bool, false, true, List, [], ◌∷◌, Option, Some, None, refl, ap, arith}
use Rattle.std.specs.Prelude.{replicate, slice_get}
use Rattle.iova_range.specs.Bounds.{first_profile, second_profile}
use Rattle.iova_model.specs.declared.step.Step.{Step}
use Rattle.iova_model.specs.declared.step.Step.TheVariants.{Alloc, Unmap, Begin, End, CloseOne}
use Rattle.iova_model.specs.declared.step.Reply.{Reply}
use Rattle.iova_model.specs.declared.step.Reply.TheVariants.{Given, Queued, Begun, Ended}
use Rattle.iova_model.specs.declared.step.Point.{Point}
use Rattle.iova_model.specs.declared.step.Point.TheVariants.{Never}
use Rattle.iova_model.specs.Caches.{no_magazines, new_caches}
use Rattle.iova_model.specs.Flushes.{flushes_from, AreSound}
use Rattle.iova_model.specs.Valid.{IsOnePlace, AreWindows, IsClient, AreClients, IsCache, AreWorkerCaches, IsDepotList, IsDepot, AreCaches, IsRing, IsValid}
use Rattle.iova_model.specs.Transcript.{Pair, IsFlushedBetween}
use Rattle.iova_model.specs.Promises.{ReuseLaw}
use Rattle.iova_model.proofs.ExampleWords.{domain, at, small, client, entry, windows_from, clients_from}

-- Windows and clients.

no_65_windows : AreWindows (windows_from 65 2) → ⊥
no_65_windows a = let h : 65 ≤ 64 = a.room in absurd (omega arith)

no_falling_windows : AreWindows (at 9 1 ∷ at 5 1 ∷ []) → ⊥
no_falling_windows a = let h : 10 ≤ 5 = a.rising.1.0 in absurd (omega arith)

no_client_of_another_domain : IsClient 1 (record { id = 1; worker = 1; sac = false; closing = false; holdings = [] }) → ⊥
no_client_of_another_domain c = let h : 1 < 1 = c.worker in absurd (omega arith)

no_4097_holdings : IsClient 1 (client 1 (replicate 4097 (at 1 1))) → ⊥
no_4097_holdings c = let h : 4097 ≤ 4096 = c.room in absurd (omega arith)

no_two_holdings_of_one_frame : IsClient 1 (client 1 (at 9 1 ∷ at 9 2 ∷ [])) → ⊥
no_two_holdings_of_one_frame c = let h : 10 ≤ 9 = c.rising.1.0 in absurd (omega arith)

no_holding_above_a_request : IsClient 1 (client 1 (at 0 1048577 ∷ [])) → ⊥
no_holding_above_a_request c = let h : 1048577 ≤ 1048576 = c.sized.0 in absurd (omega arith)

no_1025_clients : AreClients 1 (clients_from 1025 1) 1025 → ⊥
no_1025_clients a = let h : 1025 ≤ 1024 = a.room in absurd (omega arith)

no_serial_twice : AreClients 1 (client 2 [] ∷ client 2 [] ∷ []) 2 → ⊥
no_serial_twice a = let h : 2 < 2 = a.serials.1.0 in absurd (omega arith)

no_serial_that_was_not_given : AreClients 1 (client 2 [] ∷ []) 1 → ⊥
no_serial_that_was_not_given a = let h : 2 ≤ 1 = a.serials.1 in absurd (omega arith)

no_serial_behind_the_last : AreClients 1 [] 9223372036854775808 → ⊥
no_serial_behind_the_last a = let h : 9223372036854775808 ≤ 9223372036854775807 = a.worn in absurd (omega arith)

-- Caches.

no_129_entries : IsCache first_profile (record { loaded = replicate 129 1; previous = [] }) → ⊥
no_129_entries c = let h : 129 ≤ 128 = c.loaded in absurd (omega arith)

no_128_entries : IsCache (second_profile 0) (record { loaded = []; previous = replicate 128 1 }) → ⊥
no_128_entries c = let h : 128 ≤ 127 = c.previous in absurd (omega arith)

no_5_orders : AreWorkerCaches first_profile (replicate 5 no_magazines) → ⊥
no_5_orders c = absurd (omega (arith, c.orders))

no_empty_list_in_the_depot : IsDepotList first_profile [] → ⊥
no_empty_list_in_the_depot l = let h : 1 ≤ 0 = l.some in absurd (omega arith)

no_list_of_129_entries : IsDepotList first_profile (replicate 129 1) → ⊥
no_list_of_129_entries l = let h : 129 ≤ 128 = l.room in absurd (omega arith)

no_33_lists : IsDepot first_profile (replicate 33 (1 ∷ [])) → ⊥
no_33_lists d = let h : 33 ≤ 32 = d.room in absurd (omega arith)

no_list_in_a_depot_of_0 : IsDepot (second_profile 0) ((1 ∷ []) ∷ []) → ⊥
no_list_in_a_depot_of_0 d = let h : 1 ≤ 0 = d.room in absurd (omega arith)

no_caches_without_a_worker : AreCaches first_profile 1 (new_caches 2) → ⊥
no_caches_without_a_worker c = absurd (omega (arith, c.each_worker))

no_5_depots : AreCaches first_profile 1 (record (new_caches 1) { depots = replicate 5 [] }) → ⊥
no_5_depots c = absurd (omega (arith, c.orders))

-- Rings and flushes.

no_256_entries : IsRing 0 (replicate 256 (entry 1 1 0)) → ⊥
no_256_entries r = let h : 256 ≤ 255 = r.room in absurd (omega arith)

no_count_above_the_start : IsRing 3 (entry 1 1 4 ∷ []) → ⊥
no_count_above_the_start r = let h : 4 ≤ 3 = r.rising.1 in absurd (omega arith)

no_falling_counts : IsRing 3 (entry 1 1 2 ∷ entry 2 1 1 ∷ []) → ⊥
no_falling_counts r = let h : 2 ≤ 1 = r.rising.1.0 in absurd (omega arith)

no_entry_of_no_frame : IsRing 3 (entry 1 0 2 ∷ []) → ⊥
no_entry_of_no_frame r = let h : 1 ≤ 0 = r.sized.0.0 in absurd (omega arith)

no_entry_above_a_request : IsRing 3 (entry 1 1048577 2 ∷ []) → ⊥
no_entry_above_a_request r = let h : 1048577 ≤ 1048576 = r.sized.0.1 in absurd (omega arith)

no_lost_credit : AreSound (record { start = 2; finish = 1; owed = 0; newest = 2; good = 1; in_flight = [] }) → ⊥
no_lost_credit f = absurd (omega (arith, f.balance))

no_flight_that_has_not_begun : AreSound (record { start = 1; finish = 0; owed = 0; newest = 0; good = 0; in_flight = record { number = 2; credit = 1 } ∷ [] }) → ⊥
no_flight_that_has_not_begun f = let h : 2 ≤ 1 = f.rising.1 in absurd (omega arith)

no_flights_out_of_order : AreSound (record { start = 2; finish = 0; owed = 0; newest = 0; good = 0; in_flight = record { number = 2; credit = 1 } ∷ record { number = 1; credit = 1 } ∷ [] }) → ⊥
no_flights_out_of_order f = let h : 2 < 1 = f.rising.1.0 in absurd (omega arith)

-- were flush 1 to end well, the finish count would pass it
no_credit_of_a_newer_flush : AreSound (record { start = 2; finish = 0; owed = 0; newest = 0; good = 0; in_flight = record { number = 1; credit = 2 } ∷ [] }) → ⊥
no_credit_of_a_newer_flush f = let h : 2 ≤ 1 = f.reach.1 in absurd (omega arith)

-- were flush 2 to end well, the finish count would stay below it
no_credit_that_falls_short : AreSound (record { start = 2; finish = 0; owed = 1; newest = 0; good = 0; in_flight = record { number = 2; credit = 1 } ∷ [] }) → ⊥
no_credit_that_falls_short f = let h : 2 ≤ 1 = f.reach.0 in absurd (omega arith)

no_33_flights : AreSound (record { start = 33; finish = 0; owed = 0; newest = 0; good = 0; in_flight = replicate 33 (record { number = 1; credit = 1 }) }) → ⊥
no_33_flights f = let h : 33 ≤ 32 = f.room in absurd (omega arith)

no_finish_above_the_newest : AreSound (record { start = 2; finish = 2; owed = 0; newest = 1; good = 1; in_flight = [] }) → ⊥
no_finish_above_the_newest f = let h : 2 ≤ 1 = f.finish in absurd (omega arith)

no_newest_that_has_not_begun : AreSound (record { start = 2; finish = 2; owed = 0; newest = 3; good = 1; in_flight = [] }) → ⊥
no_newest_that_has_not_begun f = let h : 3 ≤ 2 = f.newest in absurd (omega arith)

no_more_good_ones_than_began : AreSound (record { start = 1; finish = 1; owed = 0; newest = 1; good = 2; in_flight = [] }) → ⊥
no_more_good_ones_than_began f = let h : 2 ≤ 1 = f.good in absurd (omega arith)

no_start_behind_the_last : AreSound (flushes_from 9223372036854775808) → ⊥
no_start_behind_the_last f = let h : 9223372036854775808 ≤ 9223372036854775807 = f.worn in absurd (omega arith)

-- Domains, and one place.

no_domain_without_workers : IsValid (domain 1 1023 0) → ⊥
no_domain_without_workers v = let h : 1 ≤ 0 = v.some_worker in absurd (omega arith)

no_17_workers : IsValid (domain 1 1023 17) → ⊥
no_17_workers v = let h : 17 ≤ 16 = v.few_workers in absurd (omega arith)

no_frame_zero : IsValid (domain 0 1023 1) → ⊥
no_frame_zero v = let h : 1 ≤ 0 = v.bounds.bounds.above_zero in absurd (omega arith)

no_domain_without_a_ring : IsValid (record small { rings = [] }) → ⊥
no_domain_without_a_ring v = absurd (omega (arith, v.each_ring))

-- frame 9 is a client's and in a window
no_frame_in_two_places : IsOnePlace (record small { clients = client 1 (at 9 1 ∷ []) ∷ []; windows = at 8 2 ∷ [] }) → ⊥
no_frame_in_two_places p = let h : 2 ≤ 1 = p.once 9 in absurd (omega arith)

-- frame 9 is in two rings' entries
no_frame_in_a_ring_twice : IsOnePlace (record small { rings = (entry 9 1 0 ∷ entry 8 2 0 ∷ []) ∷ [] }) → ⊥
no_frame_in_a_ring_twice p = let h : 2 ≤ 1 = p.once 9 in absurd (omega arith)

no_window_outside : IsOnePlace (record small { windows = at 1023 2 ∷ [] }) → ⊥
no_window_outside p = absurd (cc p.inside)

no_holding_outside : IsOnePlace (record (domain 5 1023 1) { clients = client 1 (at 4 1 ∷ []) ∷ [] }) → ⊥
no_holding_outside p = absurd (cc p.inside)

no_holding_of_no_frame : IsOnePlace (record small { clients = client 1 (at 4 0 ∷ []) ∷ [] }) → ⊥
no_holding_of_no_frame p = absurd (cc p.inside)

no_holding_that_is_not_aligned : IsOnePlace (record small { clients = client 1 (at 6 3 ∷ []) ∷ [] }) → ⊥
no_holding_that_is_not_aligned p = absurd (cc p.aligned)

-- The law of reuse, of lists of replies that no domain gives.

abbrev pair : Step → Reply → Pair
pair step reply = record { step = step; point = Never; reply = reply }

-- unmapped, and given again without a flush
abbrev given_unflushed : List Pair
given_unflushed = pair (Unmap 0 1 9) (Queued (at 9 1)) ∷ pair (Alloc 0 1 1 9) (Given (at 9 1)) ∷ []

no_reuse_unflushed : ReuseLaw given_unflushed → ⊥
no_reuse_unflushed law = never (law 0 1 9 (omega arith) (record { pair = pair (Unmap 0 1 9) (Queued (at 9 1)); is = refl; unmaps = refl }) (record { pair = pair (Alloc 0 1 1 9) (Given (at 9 1)); is = refl; gives = refl }))
  where
    never : IsFlushedBetween given_unflushed 0 1 → ⊥
    never f = let order : f.began < f.done = f.whole.order in let later : 0 < f.began = f.later in let earlier : f.done < 1 = f.earlier in absurd (omega arith)

-- the flush began before the unmap
abbrev flushed_too_early : List Pair
flushed_too_early =
    pair Begin (Begun 1) ∷ pair (CloseOne 0 1) (Queued (at 8 2)) ∷ pair (End 1 true) Ended ∷ pair (Alloc 0 1 1 9) (Given (at 9 1)) ∷ []

no_reuse_after_an_early_flush : ReuseLaw flushed_too_early → ⊥
no_reuse_after_an_early_flush law = never (law 1 3 9 (omega arith) (record { pair = pair (CloseOne 0 1) (Queued (at 8 2)); is = refl; unmaps = refl }) (record { pair = pair (Alloc 0 1 1 9) (Given (at 9 1)); is = refl; gives = refl }))
  where
    never : IsFlushedBetween flushed_too_early 1 3 → ⊥
    never f = let order : f.began < f.done = f.whole.order in let later : 1 < f.began = f.later in let earlier : f.done < 3 = f.earlier in absurd (omega arith)

-- whether this ends a flush well
abbrev is_good_end : Step → Bool
is_good_end (End n ok) = ok
is_good_end s = false

abbrev ends_well : Option Pair → Bool
ends_well None = false
ends_well (Some p) = is_good_end p.step

-- the flush failed
abbrev flush_failed : List Pair
flush_failed =
    pair (Unmap 0 1 9) (Queued (at 9 1)) ∷ pair Begin (Begun 1) ∷ pair (End 1 false) Ended ∷ pair (Alloc 0 1 1 9) (Given (at 9 1)) ∷ []

no_reuse_after_a_failed_flush : ReuseLaw flush_failed → ⊥
no_reuse_after_a_failed_flush law = never (law 0 3 9 (omega arith) (record { pair = pair (Unmap 0 1 9) (Queued (at 9 1)); is = refl; unmaps = refl }) (record { pair = pair (Alloc 0 1 1 9) (Given (at 9 1)); is = refl; gives = refl }))
  where
    -- no pair ends a flush well
    no_end : (d n : ℕ) (m : Point) → d < 3 → slice_get flush_failed d ≡ Some (record { step = End n true; point = m; reply = Ended }) → ⊥
    no_end zero n m lt e = cc (ap ends_well e)
    no_end (suc zero) n m lt e = cc (ap ends_well e)
    no_end (suc (suc zero)) n m lt e = cc (ap ends_well e)
    no_end (suc (suc (suc d))) n m lt e = absurd (omega arith)

    never : IsFlushedBetween flush_failed 0 3 → ⊥
    never f = no_end f.done f.whole.number f.whole.end_point f.earlier f.whole.ends
