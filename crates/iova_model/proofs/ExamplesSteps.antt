-- Worked examples of whole steps: what each leaves in a state that has something in every place, and that nothing else
-- changes; where the frames of that state are, their counts, and the totals.
use Rattle.std.proofs.Common.{ℕ, ◌≡◌, false, true, List, [], ◌∷◌, refl, map}
use Rattle.std.specs.Prelude.{replicate}
use Rattle.iova_range.specs.declared.refusal.Refusal.TheVariants.{Taken}
use Rattle.iova_range.specs.Bounds.{first_profile}
use Rattle.iova_model.specs.declared.step.Step.TheVariants.{Reserve, Open, Alloc, Unmap, Begin, End, Drain, Close, CloseOne}
use Rattle.iova_model.specs.declared.step.Reply.TheVariants.{Opened, Given, Queued, Begun, Ended, Drained, Marked, Reserved, Empty, Refused}
use Rattle.iova_model.specs.declared.step.Point.TheVariants.{Never}
use Rattle.iova_model.specs.declared.place.Place.TheVariants.{Free, Magazine, Depot, Ring}
use Rattle.iova_model.specs.declared.place.Place.TheVariants as place
use Rattle.iova_model.specs.Caches.{Cache, no_magazines, new_caches}
use Rattle.iova_model.specs.Clients.{Client, with_mark, totals, share_of}
use Rattle.iova_model.specs.State.{State, place_of, counts}
use Rattle.iova_model.specs.Next.{next}
use Rattle.iova_model.proofs.ExampleWords.{domain, at, client, closing_client, entry}

nothing_held : domain 1 1023 2 ≡ record {
  bounds = record { start = 1; last = 1023; profile = record { mag = 128; depot = 32; top = 68719476735 } };
  workers = 2;
  windows = [];
  clients = [];
  serial = 0;
  caches = new_caches 2;
  rings = [] ∷ [] ∷ [];
  flushes = record { start = 0; finish = 0; owed = 0; newest = 0; good = 0; in_flight = [] };
}
nothing_held = refl

-- The state: bounds 5 to 1,023, three workers.

-- no magazine of a worker has an entry
abbrev no_entries : List Cache
no_entries = replicate 6 no_magazines

-- order 1 has this in loaded
abbrev twos : List ℕ → List Cache
twos loaded = no_magazines ∷ record { loaded = loaded; previous = [] } ∷ no_magazines ∷ no_magazines ∷ no_magazines ∷ no_magazines ∷ []

-- and order 2 has these in loaded and previous
abbrev fours : List ℕ → List ℕ → List Cache
fours loaded previous = no_magazines ∷ no_magazines ∷ record { loaded = loaded; previous = previous } ∷ no_magazines ∷ no_magazines ∷ no_magazines ∷ []

-- the depot has these lists in order 1
abbrev two_lists : List (List ℕ) → List (List (List ℕ))
two_lists lists = [] ∷ lists ∷ [] ∷ [] ∷ [] ∷ [] ∷ []

-- client 1 of worker 0, client 2 of worker 1, which is closing, and client 3 of worker 2, which is `sac` and has nothing
abbrev second : Client
second = record { id = 2; worker = 1; sac = false; closing = true; holdings = at 48 1 ∷ [] }

abbrev third : Client
third = record { id = 3; worker = 2; sac = true; closing = false; holdings = [] }

-- windows 10 to 20 and 31 to 40; a fourth serial was given; worker 2 has 64 to 71 in magazines, and the depot has 100 to 103;
-- two entries of ring 1 have been flushed, and flush 7 is in flight
abbrev mixed : State
mixed = record {
  bounds = record { start = 5; last = 1023; profile = first_profile };
  workers = 3;
  windows = at 10 11 ∷ at 31 10 ∷ [];
  clients = client 1 (at 900 4 ∷ at 1020 4 ∷ []) ∷ second ∷ third ∷ [];
  serial = 4;
  caches = record { workers = no_entries ∷ no_entries ∷ fours (64 ∷ []) (68 ∷ []) ∷ []; depots = two_lists ((100 ∷ 102 ∷ []) ∷ []) };
  rings = [] ∷ (entry 256 33 4 ∷ entry 300 2 4 ∷ entry 302 2 5 ∷ []) ∷ [] ∷ [];
  flushes = record { start = 7; finish = 5; owed = 1; newest = 6; good = 3; in_flight = record { number = 7; credit = 1 } ∷ [] };
}

-- Places.

free_frames : map (place_of mixed) (5 ∷ 9 ∷ 21 ∷ 30 ∷ 41 ∷ 49 ∷ 63 ∷ 72 ∷ 104 ∷ 289 ∷ 304 ∷ 904 ∷ []) ≡ replicate 12 Free
free_frames = refl

window_frames : map (place_of mixed) (10 ∷ 20 ∷ 31 ∷ 40 ∷ []) ≡ replicate 4 place.Reserved
window_frames = refl

client_frames : map (place_of mixed) (48 ∷ 900 ∷ 903 ∷ 1020 ∷ 1023 ∷ [])
    ≡ place.Client 2 ∷ place.Client 1 ∷ place.Client 1 ∷ place.Client 1 ∷ place.Client 1 ∷ []
client_frames = refl

magazine_frames : map (place_of mixed) (64 ∷ 67 ∷ 68 ∷ 71 ∷ []) ≡ replicate 4 (Magazine 2)
magazine_frames = refl

depot_frames : map (place_of mixed) (100 ∷ 101 ∷ 102 ∷ 103 ∷ []) ≡ replicate 4 Depot
depot_frames = refl

ring_frames : map (place_of mixed) (256 ∷ 288 ∷ 300 ∷ 303 ∷ []) ≡ replicate 4 (Ring 1)
ring_frames = refl

-- 1,019 frames in all
frames_by_place : counts mixed ≡ record { free = 940; reserved = 21; client = 9; magazine = 8; depot = 4; ring = 37 }
frames_by_place = refl

taken_frames : map (λ frame. (next mixed (Reserve frame frame) Never).reply) (48 ∷ 71 ∷ 64 ∷ 103 ∷ 288 ∷ [])
    ≡ replicate 5 (Refused Taken)
taken_frames = refl

-- Totals: 900, 1,020 and 48 are the first frames.

totals_of_all : totals mixed.clients ≡ record { count = 3; frames = 9; sum_lo = 1968 }
totals_of_all = refl

share_of_worker_0 : share_of 0 mixed.clients ≡ record { count = 2; frames = 8; sum_lo = 1920 }
share_of_worker_0 = refl

share_of_worker_1 : share_of 1 mixed.clients ≡ record { count = 1; frames = 1; sum_lo = 48 }
share_of_worker_1 = refl

share_of_worker_2 : share_of 2 mixed.clients ≡ record { count = 0; frames = 0; sum_lo = 0 }
share_of_worker_2 = refl

-- Steps.

joins_two_windows : next mixed (Reserve 15 35) Never ≡ record { reply = Reserved (at 10 31); state = record mixed { windows = at 10 31 ∷ [] } }
joins_two_windows = refl

windows_rise : next mixed (Reserve 22 24) Never
    ≡ record { reply = Reserved (at 22 3); state = record mixed { windows = at 10 11 ∷ at 22 3 ∷ at 31 10 ∷ [] } }
windows_rise = refl

opens_with_the_next_serial : next mixed (Open 2 true) Never ≡ record {
  reply = Opened 5;
  state = record mixed {
    clients = client 1 (at 900 4 ∷ at 1020 4 ∷ []) ∷ second ∷ third ∷ record { id = 5; worker = 2; sac = true; closing = false; holdings = [] } ∷ [];
    serial = 5;
  };
}
opens_with_the_next_serial = refl

gives_from_the_tree : next mixed (Alloc 0 1 1 1023) Never ≡ record {
  reply = Given (at 1019 1);
  state = record mixed { clients = client 1 (at 900 4 ∷ at 1019 1 ∷ at 1020 4 ∷ []) ∷ second ∷ third ∷ [] };
}
gives_from_the_tree = refl

gives_from_a_magazine : next mixed (Alloc 2 3 3 1023) Never ≡ record {
  reply = Given (at 64 4);
  state = record mixed {
    clients = client 1 (at 900 4 ∷ at 1020 4 ∷ []) ∷ second ∷ record third { holdings = at 64 4 ∷ [] } ∷ [];
    caches = record { workers = no_entries ∷ no_entries ∷ fours [] (68 ∷ []) ∷ []; depots = two_lists ((100 ∷ 102 ∷ []) ∷ []) };
  };
}
gives_from_a_magazine = refl

gives_from_the_depot : next mixed (Alloc 0 1 2 1023) Never ≡ record {
  reply = Given (at 102 2);
  state = record mixed {
    clients = client 1 (at 102 2 ∷ at 900 4 ∷ at 1020 4 ∷ []) ∷ second ∷ third ∷ [];
    caches = record { workers = twos (100 ∷ []) ∷ no_entries ∷ fours (64 ∷ []) (68 ∷ []) ∷ []; depots = two_lists [] };
  };
}
gives_from_the_depot = refl

queues_with_the_start_count : next mixed (Unmap 0 1 900) Never ≡ record {
  reply = Queued (at 900 4);
  state = record mixed {
    clients = client 1 (at 1020 4 ∷ []) ∷ second ∷ third ∷ [];
    rings = (entry 900 4 7 ∷ []) ∷ (entry 256 33 4 ∷ entry 300 2 4 ∷ entry 302 2 5 ∷ []) ∷ [] ∷ [];
  };
}
queues_with_the_start_count = refl

begins : next mixed Begin Never ≡ record {
  reply = Begun 8;
  state = record mixed {
    flushes = record { start = 8; finish = 5; owed = 0; newest = 6; good = 3; in_flight = record { number = 7; credit = 1 } ∷ record { number = 8; credit = 2 } ∷ [] };
  };
}
begins = refl

ends_well : next mixed (End 7 true) Never
    ≡ record { reply = Ended; state = record mixed { flushes = record { start = 7; finish = 6; owed = 1; newest = 7; good = 4; in_flight = [] } } }
ends_well = refl

ends_failed : next mixed (End 7 false) Never
    ≡ record { reply = Ended; state = record mixed { flushes = record { start = 7; finish = 5; owed = 2; newest = 6; good = 3; in_flight = [] } } }
ends_failed = refl

-- 33 frames become free, and 300 goes to the magazines of the worker that drains
drains_into_its_own : next mixed (Drain 1 0) Never ≡ record {
  reply = Drained 2;
  state = record mixed {
    caches = record { workers = twos (300 ∷ []) ∷ no_entries ∷ fours (64 ∷ []) (68 ∷ []) ∷ []; depots = two_lists ((100 ∷ 102 ∷ []) ∷ []) };
    rings = [] ∷ (entry 302 2 5 ∷ []) ∷ [] ∷ [];
  };
}
drains_into_its_own = refl

marks_alone : next mixed (Close 0 1) Never
    ≡ record { reply = Marked 2; state = record mixed { clients = closing_client 1 (at 900 4 ∷ at 1020 4 ∷ []) ∷ second ∷ third ∷ [] } }
marks_alone = refl

marks_again : next mixed (Close 1 2) Never ≡ record { reply = Marked 1; state = mixed }
marks_again = refl

a_mark_changes_nothing_else : with_mark third ≡ record { id = 3; worker = 2; sac = true; closing = true; holdings = [] }
a_mark_changes_nothing_else = refl

closes_the_lowest : next mixed (CloseOne 0 1) Never ≡ record {
  reply = Queued (at 900 4);
  state = record mixed {
    clients = closing_client 1 (at 1020 4 ∷ []) ∷ second ∷ third ∷ [];
    rings = (entry 900 4 7 ∷ []) ∷ (entry 256 33 4 ∷ entry 300 2 4 ∷ entry 302 2 5 ∷ []) ∷ [] ∷ [];
  };
}
closes_the_lowest = refl

drains_its_ring_first : next mixed (CloseOne 1 2) Never ≡ record {
  reply = Queued (at 48 1);
  state = record mixed {
    clients = client 1 (at 900 4 ∷ at 1020 4 ∷ []) ∷ record second { holdings = [] } ∷ third ∷ [];
    caches = record { workers = no_entries ∷ twos (300 ∷ []) ∷ fours (64 ∷ []) (68 ∷ []) ∷ []; depots = two_lists ((100 ∷ 102 ∷ []) ∷ []) };
    rings = [] ∷ (entry 302 2 5 ∷ entry 48 1 7 ∷ []) ∷ [] ∷ [];
  };
}
drains_its_ring_first = refl

empties : next mixed (CloseOne 2 3) Never
    ≡ record { reply = Empty; state = record mixed { clients = client 1 (at 900 4 ∷ at 1020 4 ∷ []) ∷ second ∷ [] } }
empties = refl
