-- What a domain's fields stand for, and what they keep.
use Rattle.std.specs.Prelude.{ℕ, ◌≡◌, ◌||◌, nat_lt, List, Option, None, Some, sum_by, if◌then◌else◌}
use Rattle.iova_model.specs.declared.entry.Entry.{Entry}
use Rattle.iova_model.specs.Flushes.{Flushes}
use Rattle.iova_model.specs.State.{State, place_of}
use Rattle.iova_model.specs.declared.step.Step.{Step}
use Rattle.iova_model.specs.declared.step.Reply.{Reply}
use Rattle.iova_model.specs.declared.step.Point.{Point}
use Rattle.iova_model.specs.Next.{next}
use Rattle.iova_model.specs.declared.place.Place.{Place}
use Rattle.iova_model.specs.Valid.{IsValid}
use Rattle.iova_tree.specs.Space.{Space, IsSpace, ranges_of}
use Rattle.iova_clients.specs.Registry.{Registry}
use Rattle.iova_flush.specs.Rings.{frame_count}
use Rattle.iova_depot.specs.Cached.{Cached}
use Rattle.iova_core.specs.Tied.{IsTied}

-- the parts, and the frames of all windows
pub record Parts : Type 0 where
  pub tree : Space
  pub clients : Registry
  pub cached : Cached
  pub rings : List (List Entry)
  pub flushes : Flushes
  pub reserved : ℕ

-- the state that they make
abbrev pub state_of : Parts → State
state_of p = record {
  bounds = p.tree.bounds;
  workers = p.cached.workers;
  windows = p.tree.windows;
  clients = p.clients.clients;
  serial = p.clients.serial;
  caches = p.cached.caches;
  rings = p.rings;
  flushes = p.flushes;
}

-- The state is valid, the tree has what somebody has, the caches are of the profile of the bounds,
-- and the frames of the windows are counted.
pub record IsDomain (p : Parts) : Type 0 where
  pub valid : IsValid (state_of p)
  pub tied : IsTied (ranges_of p.tree) (state_of p)
  pub space : IsSpace p.tree
  pub profile : p.cached.profile ≡ p.tree.bounds.profile
  pub counted : p.reserved ≡ sum_by (λ r. r.len) p.tree.windows

-- the step has this reply and leaves this state, with or without a growth that was refused
abbrev pub IsStepOf : State → Step → Reply → State → Type 0
IsStepOf old st reply new =
    (m : Point) × (reply ≡ (next old st m).reply) × (new ≡ (next old st m).state)

-- where a frame is, inside the bounds
abbrev pub place_inside : State → ℕ → Option Place
place_inside s frame =
    if nat_lt frame s.bounds.start || nat_lt s.bounds.last frame then None
    else Some (place_of s frame)

-- how many frames wait in rings
abbrev pub frames_in_rings : List (List Entry) → ℕ
frames_in_rings rings = sum_by frame_count rings
