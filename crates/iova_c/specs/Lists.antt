-- What C's lists have after a call.
use Rattle.std.specs.Prelude.{ℕ, ◌≡◌, List, ◌++◌, length, map, take, drop, Option, None, Some, Result, Ok, Err}
use Rattle.iova_range.specs.declared.refusal.Refusal.{Refusal}
use Rattle.iova_range.specs.declared.refusal.Refusal.TheVariants as refusal
use Rattle.iova_range.specs.Refusals.{refusal_number}
use Rattle.iova_range.specs.Frames.{Frames}
use Rattle.iova_model.specs.Clients.{Client, client_with}
use Rattle.iova_c.specs.declared.slot.Paged.{Paged}
use Rattle.iova_c.specs.declared.answer.NumberAnswer.{NumberAnswer}
use Rattle.iova_c.specs.declared.answer.Listed.{Listed}

abbrev pub listed_range : Frames → Listed
listed_range r = record { lo = r.lo; len = r.len }

-- the list with the ranges at its front, as many as it has room for, and what it had behind them
abbrev pub with_ranges : List Listed → List Frames → List Listed
with_ranges list ranges = map listed_range (take (length list) ranges) ++ drop (length ranges) list

-- a call that lists these ranges, or is refused and leaves the list
abbrev pub Lists : Result (List Frames) Refusal → List Listed → NumberAnswer → List Listed → Type 0
Lists (Ok ranges) list answer list' =
    (answer ≡ record { refused = 0; number = length ranges }) × (list' ≡ with_ranges list ranges)
Lists (Err r) list answer list' =
    (answer ≡ record { refused = refusal_number r; number = 0 }) × (list' ≡ list)

abbrev pub holdings_of : Option Client → Result (List Frames) Refusal
holdings_of None = Err refusal.NoClient
holdings_of (Some c) = Ok c.holdings

abbrev pub held_in : ℕ → Option Paged → Result (List Frames) Refusal
held_in id None = Err refusal.NoDomain
held_in id (Some p) = holdings_of (client_with id p.domain.clients)

abbrev pub windows_in : Option Paged → Result (List Frames) Refusal
windows_in None = Err refusal.NoDomain
windows_in (Some p) = Ok p.domain.windows

abbrev pub ListsHoldings : Option Paged → ℕ → List Listed → NumberAnswer → List Listed
    → Option Paged → Type 0
ListsHoldings old id list answer list' new = Lists (held_in id old) list answer list' × (new ≡ old)

abbrev pub ListsWindows : Option Paged → List Listed → NumberAnswer → List Listed → Option Paged
    → Type 0
ListsWindows old list answer list' new = Lists (windows_in old) list answer list' × (new ≡ old)
