-- Worked examples: the reports of two states that are written down.
use Rattle.std.proofs.Common.{ℕ, ◌≡◌, ◌++◌, false, List, [], ◌∷◌, refl}
use Rattle.std.specs.Prelude.{codes}
use Rattle.std.specs.Fmt.{digits}
use Rattle.iova_range.specs.Frames.{Frames}
use Rattle.iova_range.specs.Bounds.{first_profile}
use Rattle.iova_model.specs.Clients.{Client}
use Rattle.iova_model.specs.Caches.{no_magazines}
use Rattle.iova_model.specs.State.{State, new_domain}
use Rattle.iova_report.specs.Report.{number_text, report_text}

-- len frames from lo on
abbrev at : ℕ → ℕ → Frames
at lo len = record { lo = lo; len = len }

abbrev client : ℕ → List Frames → Client
client id holdings = record { id = id; worker = 0; sac = false; closing = false; holdings = holdings }

-- frames 10 to 20 of 1 to 1,023 are reserved, and client 1 has frame 1,023
abbrev reserved_and_held : State
reserved_and_held = record (new_domain (record { start = 1; last = 1023; profile = first_profile }) 1) {
  windows = at 10 11 ∷ [];
  clients = client 1 (at 1023 1 ∷ []) ∷ [];
  serial = 1;
}

report_of_a_window_and_a_client : report_text reserved_and_held
    ≡ codes "free                      1011\n"
    ++ codes "reserved                    11\n"
    ++ codes "client                       1\n"
    ++ codes "magazine                     0\n"
    ++ codes "depot                        0\n"
    ++ codes "ring                         0\n"
    ++ codes "clients                      1\n"
    ++ codes "holdings                     1\n"
    ++ codes "start                        0\n"
    ++ codes "finish                       0\n"
    ++ codes "owed                         0\n"
    ++ codes "flights                      0\n"
    ++ codes "window                      10                  20\n"
unfolding report_text number_text digits
report_of_a_window_and_a_client = refl

-- bounds 1 to 100; each line has another number
abbrev of_everything : State
of_everything = record (new_domain (record { start = 1; last = 100; profile = first_profile }) 1) {
  windows = at 40 3 ∷ at 44 4 ∷ [];
  clients = client 1 (at 50 1 ∷ at 96 4 ∷ []) ∷ client 2 (at 60 1 ∷ []) ∷ client 3 [] ∷ client 4 [] ∷ client 5 [] ∷ [];
  serial = 9;
  caches = record {
    workers = (no_magazines ∷ no_magazines ∷ no_magazines ∷ record { loaded = 8 ∷ []; previous = [] } ∷ no_magazines ∷ no_magazines ∷ []) ∷ [];
    depots = ((1 ∷ []) ∷ []) ∷ [] ∷ [] ∷ [] ∷ [] ∷ [] ∷ [];
  };
  rings = (record { lo = 16; len = 16; count = 17 } ∷ []) ∷ [];
  flushes = record {
    start = 17;
    finish = 11;
    owed = 2;
    newest = 12;
    good = 8;
    in_flight = record { number = 14; credit = 1 } ∷ record { number = 15; credit = 1 } ∷ record { number = 16; credit = 1 } ∷ record { number = 17; credit = 1 } ∷ [];
  };
}

report_of_everything : report_text of_everything
    ≡ codes "free                        62\n"
    ++ codes "reserved                     7\n"
    ++ codes "client                       6\n"
    ++ codes "magazine                     8\n"
    ++ codes "depot                        1\n"
    ++ codes "ring                        16\n"
    ++ codes "clients                      5\n"
    ++ codes "holdings                     3\n"
    ++ codes "start                       17\n"
    ++ codes "finish                      11\n"
    ++ codes "owed                         2\n"
    ++ codes "flights                      4\n"
    ++ codes "window                      40                  42\n"
    ++ codes "window                      44                  47\n"
unfolding report_text number_text digits
report_of_everything = refl
