-- Worked examples of each limit, from both sides. States are written down, so that none takes thousands of steps.
use Rattle.std.proofs.Common.{ℕ, ◌≡◌, false, true, [], ◌∷◌, refl}
use Rattle.std.specs.Prelude.{replicate}
use Rattle.iova_range.specs.declared.refusal.Refusal.TheVariants.{TooBig, HoldingsFull, NoSpace, RingFull, WindowsFull, NoWorker, FlightsFull, Worn, ClientsFull}
use Rattle.iova_model.specs.declared.step.Step.TheVariants.{Reserve, Open, Alloc, Unmap, Begin, End, Drain, Close, CloseOne}
use Rattle.iova_model.specs.declared.step.Reply.TheVariants.{Opened, Given, Queued, Begun, Ended, Drained, Marked, Reserved, Empty, Refused}
use Rattle.iova_model.specs.Flushes.{flushes_from}
use Rattle.iova_model.specs.State.{State}
use Rattle.iova_model.proofs.ExampleWords.{replies, domain, at, small, held, client, entry, ring_of, windows_from, clients_from}

-- 64 windows: one more is refused, also where the frames touch one; a window that joins others isn't one more

a_64th_window : replies (record small { windows = windows_from 63 2 }) (Reserve 130 130 ∷ Reserve 132 132 ∷ [])
    ≡ Reserved (at 130 1) ∷ Refused WindowsFull ∷ []
a_64th_window = refl

a_65th_window : replies (record small { windows = windows_from 64 2 }) (Reserve 130 130 ∷ Reserve 129 129 ∷ Reserve 128 129 ∷ Reserve 2 128 ∷ Reserve 131 131 ∷ [])
    ≡ Refused WindowsFull ∷ Refused WindowsFull ∷ Reserved (at 128 2) ∷ Reserved (at 2 128) ∷ Reserved (at 131 1) ∷ []
a_65th_window = refl

-- 1,024 clients

a_1024th_client : replies (record small { clients = clients_from 1023 1; serial = 1023 }) (Open 0 false ∷ Open 0 false ∷ []) ≡ Opened 1024 ∷ Refused ClientsFull ∷ []
a_1024th_client = refl

-- also where they are closing, and where older ones are gone
a_1025th_client : replies (record small { clients = clients_from 1024 7; serial = 1030 }) (Close 0 7 ∷ Open 0 true ∷ CloseOne 0 7 ∷ Open 0 true ∷ [])
    ≡ Marked 0 ∷ Refused ClientsFull ∷ Empty ∷ Opened 1031 ∷ []
a_1025th_client = refl

-- 4,096 holdings

-- client 1 has n holdings
abbrev holding : ℕ → State
holding n = record small { clients = client 1 (replicate n (at 1 1)) ∷ []; serial = 1 }

a_4096th_holding : replies (holding 4095) (Alloc 0 1 1 1023 ∷ Alloc 0 1 1 1023 ∷ []) ≡ Given (at 1023 1) ∷ Refused HoldingsFull ∷ []
a_4096th_holding = refl

a_4097th_holding : replies (holding 4096) (Alloc 0 1 1 1023 ∷ Unmap 0 1 1 ∷ Alloc 0 1 1 1023 ∷ []) ≡ Refused HoldingsFull ∷ Queued (at 1 1) ∷ Given (at 1023 1) ∷ []
a_4097th_holding = refl

-- 1,048,576 frames in one request: more than the bounds have, but not too many to ask for

as_many_frames_as_may_be : replies held (Alloc 0 1 1048576 1023 ∷ Alloc 0 1 1048577 1023 ∷ Alloc 0 1 18446744073709551615 1023 ∷ [])
    ≡ Refused NoSpace ∷ Refused TooBig ∷ Refused TooBig ∷ []
as_many_frames_as_may_be = refl

-- 32 flushes in flight

abbrev flights : ℕ → State
flights n = record small { flushes = record { start = n; finish = 0; owed = 0; newest = 0; good = 0; in_flight = replicate n (record { number = 1; credit = 1 }) } }

a_32nd_flush : replies (flights 31) (Begin ∷ Begin ∷ []) ≡ Begun 32 ∷ Refused FlightsFull ∷ []
a_32nd_flush = refl

a_33rd_flush : replies (flights 32) (Begin ∷ End 1 false ∷ Begin ∷ []) ≡ Refused FlightsFull ∷ Ended ∷ Begun 33 ∷ []
a_33rd_flush = refl

-- 255 entries in a ring

a_255th_entry : replies (ring_of 254) (Unmap 0 1 1023 ∷ []) ≡ Queued (at 1023 1) ∷ []
a_255th_entry = refl

a_256th_entry : replies (ring_of 255) (Unmap 0 1 1023 ∷ CloseOne 0 1 ∷ []) ≡ Refused RingFull ∷ Refused RingFull ∷ []
a_256th_entry = refl

a_255th_entry_at_closing : replies (ring_of 254) (CloseOne 0 1 ∷ []) ≡ Queued (at 1023 1) ∷ []
a_255th_entry_at_closing = refl

-- a full ring whose oldest entry has been flushed has room
drained_first :
    replies (record held { rings = (entry 1 1 0 ∷ replicate 254 (entry 1 1 1)) ∷ []; flushes = flushes_from 1 }) (Unmap 0 1 1023 ∷ [])
    ≡ Queued (at 1023 1) ∷ []
drained_first = refl

-- serials and start counts up to 2^63 - 1

the_last_serial : replies (record small { serial = 9223372036854775806 }) (Open 0 false ∷ Open 0 false ∷ []) ≡ Opened 9223372036854775807 ∷ Refused Worn ∷ []
the_last_serial = refl

the_last_flush : replies (record small { flushes = flushes_from 9223372036854775806 }) (Begin ∷ Begin ∷ End 9223372036854775807 true ∷ Begin ∷ [])
    ≡ Begun 9223372036854775807 ∷ Refused Worn ∷ Ended ∷ Refused Worn ∷ []
the_last_flush = refl

-- workers and rings count from 0

the_last_of_16_workers : replies (domain 1 1023 16) (Open 15 false ∷ Open 16 false ∷ Drain 15 0 ∷ Drain 0 15 ∷ Drain 16 0 ∷ Drain 0 16 ∷ [])
    ≡ Opened 1 ∷ Refused NoWorker ∷ Drained 0 ∷ Drained 0 ∷ Refused NoWorker ∷ Refused NoWorker ∷ []
the_last_of_16_workers = refl

the_only_worker : replies small (Open 0 false ∷ Open 1 false ∷ Alloc 1 1 1 5 ∷ Unmap 1 1 5 ∷ Close 1 1 ∷ CloseOne 1 1 ∷ [])
    ≡ Opened 1 ∷ Refused NoWorker ∷ Refused NoWorker ∷ Refused NoWorker ∷ Refused NoWorker ∷ Refused NoWorker ∷ []
the_only_worker = refl
