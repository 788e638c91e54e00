-- What `Clients` are seen as, and what refuses a call of theirs.
use Rattle.std.specs.Prelude.{ℕ, ◌≡◌, ◌==◌, ◌+◌, ◌^◌, ◌<◌, ◌≤◌, Bool, true, nat_le, List, [], ◌∷◌, length, Option, Some, None, Result, Err, MatchOption, MatchResult, unwrap_or, find, option_map, ok_or, slice_get}
use Rattle.std.specs.List.{AllByRecursion}
use Rattle.std.specs.Map.{lookup}
use Rattle.iova_range.specs.declared.limits.TheConstants.{MAX_WORKERS, MAX_CLIENTS, MAX_HOLDINGS, MAX_SERIAL}
use Rattle.iova_range.specs.declared.refusal.Refusal.{Refusal}
use Rattle.iova_range.specs.declared.refusal.Refusal.TheVariants as refusal
use Rattle.iova_range.specs.Frames.{Frames}
use Rattle.iova_model.specs.Fit.{is_covered}
use Rattle.iova_model.specs.Clients.{Client, begins_at}
use Rattle.iova_model.specs.Next.{first_refusal}
use Rattle.iova_model.specs.Valid.{AreClients}
use Rattle.iova_clients.specs.declared.flags.ClientFlags.{ClientFlags}
use Rattle.iova_clients.specs.Orders.{AppendsInAnyOrder}

-- The clients, rising by serial; the last serial given; and by the serial of each client how many
-- more holdings it can be given without memory
pub record Registry : Type 0 where
  pub clients : List Client
  pub serial : ℕ
  pub spares : List (ℕ × ℕ)

-- no clients, this being the last serial given
abbrev pub empty_registry : ℕ → Registry
empty_registry serial = record { clients = []; serial = serial; spares = [] }

abbrev pub is_serial : ℕ → ℕ → Bool
is_serial id serial = serial == id

-- how many more holdings the client of this serial can be given without memory, 0 where there is no
-- such client
abbrev pub spare_of : ℕ → Registry → ℕ
spare_of id r = unwrap_or (lookup (is_serial id) r.spares) 0

-- no frame of a holding is above the greatest that a profile has, 2^40 - 1
abbrev pub IsBelowTop : Frames → Type 0
IsBelowTop r = r.lo + r.len ≤ 2 ^ 40

abbrev pub HoldsLow : Client → Type 0
HoldsLow c = AllByRecursion IsBelowTop c.holdings

-- what is true of all `Clients`, the workers being 0 to 15
pub record IsRegistry (r : Registry) : Type 0 where
  pub clients : AreClients MAX_WORKERS r.clients r.serial
  pub low : AllByRecursion HoldsLow r.clients

-- Refusals

-- the refusal of `open`, where memory is left
abbrev pub open_refusal : Registry → Option Refusal
open_refusal r =
    first_refusal ((nat_le MAX_SERIAL r.serial, refusal.Worn)
    ∷ (nat_le MAX_CLIENTS (length r.clients), refusal.ClientsFull) ∷ [])

-- the refusal of `room`, where memory is left
abbrev pub room_refusal : Option Client → Option Refusal
room_refusal None = Some refusal.NoClient
room_refusal (Some c) =
    first_refusal ((c.closing, refusal.Closing)
    ∷ (nat_le MAX_HOLDINGS (length c.holdings), refusal.HoldingsFull) ∷ [])

-- a client has fewer than 4,096 holdings, none of which begins where the range does
pub record CanBeGiven (r : Frames) (c : Client) : Type 0 where
  pub room : length c.holdings < MAX_HOLDINGS
  pub new : find (begins_at r.lo) c.holdings ≡ None

-- the holding that begins there
abbrev pub held_at : ℕ → Option Client → Result Frames Refusal
held_at lo None = Err refusal.NoClient
held_at lo (Some c) = ok_or (find (begins_at lo) c.holdings) refusal.NotHeld

-- the client's holdings come behind the list, in any order; unless there is no such client, or
-- memory is refused
abbrev pub AppendsHoldings : Option Client → List Frames → List Frames → Result Unit Refusal
    → Type 0
AppendsHoldings o old new result =
    MatchOption o (result ≡ Err refusal.NoClient)
    (λ c. MatchResult result (λ u. AppendsInAnyOrder c.holdings old new)
    (λ e. e ≡ refusal.NoMemory))

-- what a step asks of a client before it looks at a holding
abbrev pub flags_of : Client → ClientFlags
flags_of c = record { sac = c.sac; closing = c.closing }

-- the lowest holding
abbrev pub lowest : Client → Option Frames
lowest c = slice_get c.holdings 0

-- how many holdings there are
abbrev pub count_held : Option Client → Result ℕ Refusal
count_held c = ok_or (option_map (λ c. length c.holdings) c) refusal.NoClient

-- a closing client without holdings
pub record CanBeForgotten (c : Client) : Type 0 where
  pub closing : c.closing ≡ true
  pub empty : c.holdings ≡ []

-- the client of this serial has a holding with the frame
pub record IsHolder (frame : ℕ) (clients : List Client) (id : ℕ) : Type 0 where
  pub place : ℕ
  pub client : Client
  pub here : slice_get clients place ≡ Some client
  pub serial : client.id ≡ id
  pub covers : is_covered frame client.holdings ≡ true
