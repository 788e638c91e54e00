-- The text of a domain's report: twelve lines of a name and a number, then a line for each window.
-- All of it is ASCII, and each line ends by LF.
use Rattle.std.specs.Prelude.{ℕ, ◌+◌, ◌-◌, List, [], ◌∷◌, ◌++◌, length, replicate, codes, decimal}
use Rattle.std.specs.List.{flat_map}
use Rattle.iova_range.specs.Frames.{Frames}
use Rattle.iova_model.specs.declared.place.Counts.{Counts}
use Rattle.iova_model.specs.Clients.{totals}
use Rattle.iova_model.specs.State.{State, counts}

-- a text left in these places: spaces fill them up
abbrev pub padded_right : ℕ → List ℕ → List ℕ
padded_right places text = text ++ replicate (places - length text) 32

-- a text right in these places
abbrev pub padded_left : ℕ → List ℕ → List ℕ
padded_left places text = replicate (places - length text) 32 ++ text

abbrev pub name_text : List ℕ → List ℕ
name_text name = padded_right 10 name

unfoldable pub number_text : ℕ → List ℕ
number_text n = padded_left 20 (decimal n)

-- a line of a name and a number
abbrev pub field_text : List ℕ → ℕ → List ℕ
field_text name n = name_text name ++ number_text n ++ 10 ∷ []

-- a window's line: its first and its last frame
abbrev pub window_text : Frames → List ℕ
window_text r =
    name_text (codes "window") ++ number_text r.lo ++ number_text (r.lo + r.len - 1) ++ 10 ∷ []

-- the frames at each kind of place
abbrev pub counts_text : Counts → List ℕ
counts_text c =
    field_text (codes "free") c.free
    ++ field_text (codes "reserved") c.reserved
    ++ field_text (codes "client") c.client
    ++ field_text (codes "magazine") c.magazine
    ++ field_text (codes "depot") c.depot
    ++ field_text (codes "ring") c.ring

-- what a state holds
unfoldable pub report_text : State → List ℕ
report_text s =
    counts_text (counts s)
    ++ field_text (codes "clients") (length s.clients)
    ++ field_text (codes "holdings") (totals s.clients).count
    ++ field_text (codes "start") s.flushes.start
    ++ field_text (codes "finish") s.flushes.finish
    ++ field_text (codes "owed") s.flushes.owed
    ++ field_text (codes "flights") (length s.flushes.in_flight)
    ++ flat_map window_text s.windows
