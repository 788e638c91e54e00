-- A daemon's new domain.
use Rattle.std.specs.Prelude.{ℕ, ◌≡◌, ◌≤◌, ◌+◌, ◌-◌, ◌*◌, max, min, List, [], ◌∷◌, Option, Some, None, unwrap_or}
use Rattle.iova_range.specs.Frames.{Frames}
use Rattle.iova_model.specs.State.{State}
use Rattle.iova_model.specs.declared.step.Step.TheVariants as step
use Rattle.iova_model.specs.declared.step.Reply.TheVariants as reply
use Rattle.iova_keep.specs.Steps.{Takes}
use Rattle.iova_range.specs.Bounds.{Extent}
use Rattle.iova_range.specs.declared.limits.TheConstants.{DEFAULT_CLIENTS, MAX_POSTS, RECORDED_STEPS, SEAT_PARTS}
use Rattle.iova_keep.specs.StepLogs.{StepLog, new_log, GoesOn}
use Rattle.iova_keep.specs.Views.{SeatState, seats_in_turn}
use Rattle.iova_lock.specs.Books.{BookState, SharedState, new_book}
use Rattle.iova_command.specs.declared.plan.Plan.{Plan}

-- how many steps are recorded: so many, or the default where the plan doesn't say
abbrev pub steps_of : Option ℕ → ℕ
steps_of steps = unwrap_or steps RECORDED_STEPS

-- what is recorded of the plan's domain: nothing, where no record is wanted
abbrev pub planned_log : {A : Type 0} → Option A → Option ℕ → Option StepLog
planned_log None steps = None
planned_log (Some path) steps = Some (new_log (steps_of steps))

-- the plan's new domain with these bounds
abbrev pub planned_book : Plan → Extent → BookState
planned_book plan bounds =
    record (new_book plan.domain bounds plan.workers (planned_log plan.record plan.record_steps))
    { strict = plan.strict }

-- how many seats there are: twice as many as clients that are served at a time, but not more than a
-- domain may have, and at least one for each worker
abbrev pub seat_count : Plan → ℕ
seat_count plan = max (min (2 * unwrap_or plan.clients DEFAULT_CLIENTS) MAX_POSTS) plan.workers

-- the new seats of a domain, of its workers in turn
pub record AreNewSeats (shared : SharedState) (seats : List SeatState) : Type 0 where
  pub turn : seats ≡ seats_in_turn SEAT_PARTS shared.workers shared.seats
  pub enough : shared.workers ≤ shared.seats
  pub some : 1 ≤ shared.workers

-- these windows are reserved in s, one after another, and that leaves t
abbrev pub ReservesAll : List Frames → State → State → Type 0
ReservesAll [] s t = t ≡ s
ReservesAll (w ∷ ws) s t =
    (mid : State) × (got : Frames) × Takes s (step.Reserve w.lo (w.lo + w.len - 1))
    (reply.Reserved got) mid
    × ReservesAll ws mid t

-- a new book, once these windows are reserved in it
pub record IsReserved (windows : List Frames) (new book : BookState) : Type 0 where
  pub domain : ReservesAll windows new.state book.state
  pub number : book.number ≡ new.number
  pub strict : book.strict ≡ new.strict
  pub log : GoesOn new.log book.log
