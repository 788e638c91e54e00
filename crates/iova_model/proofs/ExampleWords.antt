-- What the worked examples are said in: runs of steps, and states that are written down.
use Rattle.std.proofs.Common.{ℕ, zero, suc, ◌+◌, false, true, List, [], ◌∷◌}
use Rattle.std.specs.Prelude.{replicate}
use Rattle.iova_range.specs.Frames.{Frames}
use Rattle.iova_range.specs.Bounds.{first_profile, second_profile}
use Rattle.iova_model.specs.declared.step.Step.{Step}
use Rattle.iova_model.specs.declared.step.Step.TheVariants.{Open, Alloc, Unmap, Begin, End, Drain}
use Rattle.iova_model.specs.declared.step.Reply.{Reply}
use Rattle.iova_model.specs.declared.step.Point.TheVariants.{Never}
use Rattle.iova_model.specs.declared.entry.Entry.{Entry}
use Rattle.iova_model.specs.Caches.{Shelf}
use Rattle.iova_model.specs.Clients.{Client}
use Rattle.iova_model.specs.State.{State, new_domain}
use Rattle.iova_model.specs.Next.{next}

-- the replies to steps that want for no memory
abbrev pub replies : State → List Step → List Reply
replies s [] = []
replies s (step ∷ steps) = let n = next s step Never in n.reply ∷ replies n.state steps

-- the state that they leave
abbrev pub after : State → List Step → State
after s [] = s
after s (step ∷ steps) = after (next s step Never).state steps

abbrev pub domain : ℕ → ℕ → ℕ → State
domain start last workers = new_domain (record { start = start; last = last; profile = first_profile }) workers

abbrev pub deep_domain : ℕ → ℕ → ℕ → State
deep_domain start last depot = new_domain (record { start = start; last = last; profile = second_profile depot }) 1

-- len frames from lo on
abbrev pub at : ℕ → ℕ → Frames
at lo len = record { lo = lo; len = len }

abbrev pub small : State
small = domain 1 1023 1

-- client 1 has frame 1023
abbrev pub held : State
held = after small (Open 0 false ∷ Alloc 0 1 1 1023 ∷ [])

-- frame 3 is in a magazine, and two frames fit only without it
abbrev pub cached : State
cached = after (domain 1 3 1) (Open 0 false ∷ Alloc 0 1 1 3 ∷ Unmap 0 1 3 ∷ Begin ∷ End 1 true ∷ Drain 0 0 ∷ [])

abbrev pub shelf : List ℕ → List ℕ → List (List ℕ) → Shelf
shelf loaded previous depot = record { loaded = loaded; previous = previous; depot = depot }

-- a client of worker 0 that isn't `sac`
abbrev pub client : ℕ → List Frames → Client
client id holdings = record { id = id; worker = 0; sac = false; closing = false; holdings = holdings }

-- a client of worker 0 that is closing
abbrev pub closing_client : ℕ → List Frames → Client
closing_client id holdings = record { id = id; worker = 0; sac = false; closing = true; holdings = holdings }

abbrev pub entry : ℕ → ℕ → ℕ → Entry
entry lo len count = record { lo = lo; len = len; count = count }

-- n entries in the ring that no flush has covered, and client 1 has frame 1023
abbrev pub ring_of : ℕ → State
ring_of n = record held { rings = replicate n (entry 1 1 0) ∷ [] }

-- n windows of one frame, every second frame from lo on
abbrev pub windows_from : ℕ → ℕ → List Frames
windows_from zero lo = []
windows_from (suc n) lo = at lo 1 ∷ windows_from n (lo + 2)

-- n clients, with serials from id on, that hold nothing
abbrev pub clients_from : ℕ → ℕ → List Client
clients_from zero id = []
clients_from (suc n) id = client id [] ∷ clients_from n (id + 1)
