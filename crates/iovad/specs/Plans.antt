-- How a daemon serves a plan, and how that may end.
use Rattle.std.specs.Prelude.{ℕ, zero, suc, ◌≡◌, ◌≢◌, ◌<◌, ◌≤◌, ◌*◌, ◌/◌, min, Bool, true, false, List, [], length, is_some, unwrap_or, Option, Some, None}
use Rattle.iova_range.specs.Bounds.{Capacities, Extent, first_profile, second_profile}
use Rattle.iova_range.specs.declared.limits.TheConstants.{FRAME_BYTES, MAX_DAEMON_NAME, MAX_REQUESTS, MAX_SESSION_READS, MAX_SESSION_REQUESTS, STOP_PAUSE}
use Rattle.iova_command.specs.declared.plan.Plan.{Plan}
use Rattle.iova_command.specs.declared.sink_path.SinkPath.{SinkPath}
use Rattle.iova_command.specs.declared.sink_path.SinkPath.TheVariants as place
use Rattle.iova_control.specs.declared.control.Facts.{Facts}
use Rattle.iova_session.specs.declared.session_limits.SessionLimits.{SessionLimits}
use Rattle.iova_tools.specs.declared.fault.Fault.{Fault}
use Rattle.iova_tools.specs.declared.fault.Fault.TheVariants as fault

-- the profile of a plan: the second where it has a depot
abbrev pub profile_of : Option ℕ → Capacities
profile_of (Some depot) = second_profile depot
profile_of None = first_profile

-- the last frame is above what the profile allows
abbrev pub IsAboveProfile : Plan → Type 0
IsAboveProfile plan = (profile_of plan.depot).top < plan.last

-- the plan's frames, in its profile
abbrev pub IsBoundsOf : Plan → Extent → Type 0
IsBoundsOf plan bounds =
    bounds ≡ record { start = plan.start; last = plan.last; profile = profile_of plan.depot }

-- the most requests that are said; 0 is no bound but that of the count
abbrev pub planned_requests : ℕ → ℕ
planned_requests zero = MAX_SESSION_REQUESTS
planned_requests (suc n) = suc n

-- How much a session may ask for, where the most requests are said: these, in 16 reads for each, as
-- far as a number of 64 bits goes; or not, and then the usual.
abbrev pub planned_limits : Option ℕ → SessionLimits
planned_limits (Some requests) = record {
  requests = planned_requests requests;
  reads = min (planned_requests requests * 16) 18446744073709551615;
}
planned_limits None = record { requests = MAX_REQUESTS; reads = MAX_SESSION_READS }

-- How many turns of a quarter of a second a session's peer is waited for: those of the seconds that
-- are said, as far as a number of 64 bits goes; or without an end.
abbrev pub planned_turns : Option ℕ → ℕ
planned_turns (Some seconds) = min (seconds * (1000 / STOP_PAUSE)) 18446744073709551615
planned_turns None = 18446744073709551615

-- whether a peer answers
abbrev pub is_peer : SinkPath → Bool
is_peer (place.Peer path) = true
is_peer (place.File path) = false

-- What is so of a plan's daemon of this name, which serves so many sessions at a time. A name that
-- is too long is left out.
pub record AreFactsOf (plan : Plan) (said : List ℕ) (count : ℕ) (facts : Facts) : Type 0 where
  pub workers : facts.workers ≡ plan.workers
  pub clients : facts.clients ≡ count
  pub granule : facts.granule ≡ unwrap_or plan.granule FRAME_BYTES
  pub has_peer : facts.has_peer ≡ is_peer plan.sink
  pub is_recorded : facts.is_recorded ≡ is_some plan.record
  pub name : length said ≤ MAX_DAEMON_NAME → facts.name.bytes ≡ said
  pub too_long : MAX_DAEMON_NAME < length said → facts.name.bytes ≡ []

-- how serving what a plan says may end: the faults of the plan and of its regions come only where
-- it has them, and else the daemon's own
abbrev pub IsFaultOfServing : Plan → Fault → Type 0
IsFaultOfServing plan fault.StartAboveLast = plan.last < plan.start
IsFaultOfServing plan fault.LastAboveProfile = (plan.start ≤ plan.last) × IsAboveProfile plan
IsFaultOfServing plan fault.CannotOpenSink = Unit {0}
IsFaultOfServing plan fault.SocketFault = Unit {0}
IsFaultOfServing plan fault.NoMemory = Unit {0}
IsFaultOfServing plan fault.CannotWrite = Unit {0}
IsFaultOfServing plan (fault.Left left) = Unit {0}
IsFaultOfServing plan (fault.Words usage) = ⊥
IsFaultOfServing plan (fault.TraceRefused line) = ⊥
IsFaultOfServing plan (fault.LogRefused line) = ⊥
IsFaultOfServing plan (fault.RegionsRefused line) = plan.regions ≢ None
IsFaultOfServing plan fault.Found = ⊥
IsFaultOfServing plan fault.Incomplete = ⊥
IsFaultOfServing plan (fault.CannotRead path) = plan.regions ≡ Some path
