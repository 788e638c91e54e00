-- Worked examples of refusals: where two hold, the one that stands first in the step's order is answered.
use Rattle.std.proofs.Common.{◌≡◌, false, true, [], ◌∷◌, refl}
use Rattle.std.specs.Prelude.{replicate}
use Rattle.iova_range.specs.declared.refusal.Refusal.TheVariants.{Zero, TooBig, NoClient, Closing, HoldingsFull, NoSpace, RingFull, NotHeld, Taken, BadWindow, WindowsFull, NoWorker, FlightsFull, NoFlight, Worn, ClientsFull, NoMemory}
use Rattle.iova_model.specs.declared.step.Step.{Step}
use Rattle.iova_model.specs.declared.step.Step.TheVariants.{Reserve, Open, Alloc, Unmap, Begin, End, Drain, Close, CloseOne}
use Rattle.iova_model.specs.declared.step.Reply.{Reply}
use Rattle.iova_model.specs.declared.step.Reply.TheVariants.{Opened, Marked, Reserved, Empty, Refused}
use Rattle.iova_model.specs.declared.step.Point.{Point}
use Rattle.iova_model.specs.declared.step.Point.TheVariants.{Never, Once, Ledger, Last}
use Rattle.iova_model.specs.State.{State}
use Rattle.iova_model.specs.Next.{next}
use Rattle.iova_model.proofs.ExampleWords.{replies, domain, at, small, held, client, closing_client, ring_of, windows_from, clients_from}

-- what a step is answered in this state, without memory at this point
abbrev reply_at : State → Step → Point → Reply
reply_at s step m = (next s step m).reply

-- what a step is answered with memory
abbrev reply_to : State → Step → Reply
reply_to s step = (next s step Never).reply

-- Reserve: BadWindow, Taken, WindowsFull, NoMemory.

-- 64 windows, and client 1 has frame 1023
abbrev all_windows : State
all_windows = record held { windows = windows_from 64 2 }

not_inside_and_taken : reply_to held (Reserve 1023 1024) ≡ Refused BadWindow
not_inside_and_taken = refl

frame_zero_and_taken : reply_to held (Reserve 0 1023) ≡ Refused BadWindow
frame_zero_and_taken = refl

taken_and_windows_full : reply_to all_windows (Reserve 1023 1023) ≡ Refused Taken
taken_and_windows_full = refl

windows_full_and_no_memory : reply_at all_windows (Reserve 130 130) Once ≡ Refused WindowsFull
windows_full_and_no_memory = refl

taken_and_no_memory : reply_at held (Reserve 1023 1023) Once ≡ Refused Taken
taken_and_no_memory = refl

-- the first and the last frame of the bounds, and those outside
windows_at_the_ends : replies (domain 5 1023 1) (Reserve 4 5 ∷ Reserve 5 5 ∷ Reserve 1023 1024 ∷ Reserve 1023 1023 ∷ Reserve 7 6 ∷ [])
    ≡ Refused BadWindow ∷ Reserved (at 5 1) ∷ Refused BadWindow ∷ Reserved (at 1023 1) ∷ Refused BadWindow ∷ []
windows_at_the_ends = refl

-- Open: NoWorker, Worn, ClientsFull, NoMemory.

-- no serial is left, and there are 1,024 clients
abbrev worn : State
worn = record small { clients = clients_from 1024 1; serial = 9223372036854775807 }

no_worker_and_worn : reply_to worn (Open 1 false) ≡ Refused NoWorker
no_worker_and_worn = refl

worn_and_clients_full : reply_to worn (Open 0 false) ≡ Refused Worn
worn_and_clients_full = refl

worn_and_no_memory : reply_at (record worn { clients = [] }) (Open 0 false) Once ≡ Refused Worn
worn_and_no_memory = refl

clients_full_and_no_memory : reply_at (record worn { serial = 1024 }) (Open 0 false) Once ≡ Refused ClientsFull
clients_full_and_no_memory = refl

-- Alloc: NoWorker, Zero, TooBig, NoClient, Closing, HoldingsFull, NoMemory, NoSpace.

-- client 1 is closing and has 4,096 holdings, in bounds that have no other frame
abbrev brimful : State
brimful = record (domain 1 1 1) { clients = closing_client 1 (replicate 4096 (at 1 1)) ∷ []; serial = 1 }

alloc_refusals : replies small (Open 0 false ∷ Alloc 0 1 0 5 ∷ Alloc 0 1 1048577 5 ∷ Alloc 0 2 1 5 ∷ [])
    ≡ Opened 1 ∷ Refused Zero ∷ Refused TooBig ∷ Refused NoClient ∷ []
alloc_refusals = refl

no_worker_and_zero : reply_to small (Alloc 1 1 0 5) ≡ Refused NoWorker
no_worker_and_zero = refl

no_worker_and_too_big : reply_to small (Alloc 1 1 1048577 5) ≡ Refused NoWorker
no_worker_and_too_big = refl

zero_and_no_client : reply_to small (Alloc 0 1 0 5) ≡ Refused Zero
zero_and_no_client = refl

too_big_and_no_client : reply_to small (Alloc 0 1 1048577 5) ≡ Refused TooBig
too_big_and_no_client = refl

-- a closing client of another worker
no_client_and_closing : reply_to (record brimful { workers = 2 }) (Alloc 1 1 1 5) ≡ Refused NoClient
no_client_and_closing = refl

closing_and_holdings_full : reply_to brimful (Alloc 0 1 1 5) ≡ Refused Closing
closing_and_holdings_full = refl

closing_and_no_memory : reply_at brimful (Alloc 0 1 1 5) Ledger ≡ Refused Closing
closing_and_no_memory = refl

holdings_full_and_no_memory : reply_at (record brimful { clients = client 1 (replicate 4096 (at 1 1)) ∷ [] }) (Alloc 0 1 1 5) Ledger ≡ Refused HoldingsFull
holdings_full_and_no_memory = refl

holdings_full_and_no_space : reply_to (record brimful { clients = client 1 (replicate 4096 (at 1 1)) ∷ [] }) (Alloc 0 1 1 5) ≡ Refused HoldingsFull
holdings_full_and_no_space = refl

no_memory_and_no_space : reply_at (record brimful { clients = client 1 (at 1 1 ∷ []) ∷ [] }) (Alloc 0 1 1 5) Ledger ≡ Refused NoMemory
no_memory_and_no_space = refl

-- nothing is found, so nothing grows
no_space_where_the_last_growth_would_be_refused : reply_at (record brimful { clients = client 1 (at 1 1 ∷ []) ∷ [] }) (Alloc 0 1 1 5) Last ≡ Refused NoSpace
no_space_where_the_last_growth_would_be_refused = refl

-- Unmap: NoWorker, NoClient, Closing, NotHeld, RingFull.

-- the ring is full, and client 1 is closing
abbrev closing_full : State
closing_full = record (ring_of 255) { clients = closing_client 1 (at 1023 1 ∷ []) ∷ [] }

no_worker_and_no_client : reply_to small (Unmap 1 1 1023) ≡ Refused NoWorker
no_worker_and_no_client = refl

another_workers_client_and_closing : reply_to (record closing_full { workers = 2 }) (Unmap 1 1 1023) ≡ Refused NoClient
another_workers_client_and_closing = refl

no_client_and_ring_full : reply_to closing_full (Unmap 0 2 1023) ≡ Refused NoClient
no_client_and_ring_full = refl

closing_and_not_held : reply_to closing_full (Unmap 0 1 9) ≡ Refused Closing
closing_and_not_held = refl

closing_and_ring_full : reply_to closing_full (Unmap 0 1 1023) ≡ Refused Closing
closing_and_ring_full = refl

not_held_and_ring_full : reply_to (ring_of 255) (Unmap 0 1 9) ≡ Refused NotHeld
not_held_and_ring_full = refl

-- a holding is named by its first frame
not_held_inside_a_holding : reply_to (record held { clients = client 1 (at 1016 4 ∷ []) ∷ [] }) (Unmap 0 1 1017) ≡ Refused NotHeld
not_held_inside_a_holding = refl

-- Begin: FlightsFull, Worn. End: NoFlight. Drain: NoWorker.

flights_full_and_worn :
    reply_to (record small { flushes = record { start = 9223372036854775807; finish = 0; owed = 0; newest = 0; good = 0; in_flight = replicate 32 (record { number = 1; credit = 1 }) } }) Begin
    ≡ Refused FlightsFull
flights_full_and_worn = refl

no_flight : replies small (End 1 true ∷ End 0 false ∷ []) ≡ Refused NoFlight ∷ Refused NoFlight ∷ []
no_flight = refl

no_such_ring_or_worker : replies small (Drain 0 1 ∷ Drain 1 0 ∷ []) ≡ Refused NoWorker ∷ Refused NoWorker ∷ []
no_such_ring_or_worker = refl

-- Close: NoWorker, NoClient. CloseOne: NoWorker, NoClient, RingFull.

close_of_no_worker : replies small (Close 1 1 ∷ CloseOne 1 1 ∷ []) ≡ Refused NoWorker ∷ Refused NoWorker ∷ []
close_of_no_worker = refl

close_of_no_client : replies small (Close 0 1 ∷ CloseOne 0 1 ∷ []) ≡ Refused NoClient ∷ Refused NoClient ∷ []
close_of_no_client = refl

close_of_another_workers_client : replies (record closing_full { workers = 2 }) (Close 1 1 ∷ CloseOne 1 1 ∷ []) ≡ Refused NoClient ∷ Refused NoClient ∷ []
close_of_another_workers_client = refl

close_of_no_client_and_ring_full : reply_to closing_full (CloseOne 0 2) ≡ Refused NoClient
close_of_no_client_and_ring_full = refl

closing_client_unmaps_nothing : replies held (Close 0 1 ∷ Unmap 0 1 1023 ∷ []) ≡ Marked 1 ∷ Refused Closing ∷ []
closing_client_unmaps_nothing = refl

-- What a refusal leaves at a full ring.

unmap_at_a_full_ring : next (ring_of 255) (Unmap 0 1 1023) Never ≡ record { reply = Refused RingFull; state = ring_of 255 }
unmap_at_a_full_ring = refl

close_one_at_a_full_ring : next (ring_of 255) (CloseOne 0 1) Never ≡ record { reply = Refused RingFull; state = closing_full }
close_one_at_a_full_ring = refl

-- Without a holding the client goes, and the ring isn't drained, though its entries have been flushed.
emptied_at_a_full_ring :
    next (record (ring_of 255) { clients = client 1 [] ∷ []; flushes = record { start = 1; finish = 1; owed = 0; newest = 1; good = 1; in_flight = [] } }) (CloseOne 0 1) Never
    ≡ record { reply = Empty; state = record (ring_of 255) { clients = []; flushes = record { start = 1; finish = 1; owed = 0; newest = 1; good = 1; in_flight = [] } } }
emptied_at_a_full_ring = refl
