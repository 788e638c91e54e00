-- What C reads of a slot, which holds a domain or none.
use Rattle.std.specs.Prelude.{ℕ, ◌≡◌, Bool, true, false, nat_lt, Option, None, Some, length, if◌then◌else◌}
use Rattle.iova_range.specs.declared.refusal.Refusal.{Refusal}
use Rattle.iova_range.specs.declared.refusal.Refusal.TheVariants as refusal
use Rattle.iova_range.specs.Refusals.{refusal_number}
use Rattle.iova_model.specs.declared.place.Place.{Place}
use Rattle.iova_model.specs.declared.place.Place.TheVariants as place
use Rattle.iova_model.specs.declared.totals.Totals.{Totals}
use Rattle.iova_model.specs.Clients.{Client, client_with, totals, share_of}
use Rattle.iova_model.specs.State.{counts}
use Rattle.iova_core.specs.Domain.{place_inside}
use Rattle.iova_c.specs.declared.slot.Paged.{Paged}
use Rattle.iova_c.specs.declared.answer.PlaceAnswer.{PlaceAnswer}
use Rattle.iova_c.specs.declared.answer.CountsAnswer.{CountsAnswer}
use Rattle.iova_c.specs.declared.answer.TotalsAnswer.{TotalsAnswer}
use Rattle.iova_c.specs.declared.answer.ClientAnswer.{ClientAnswer}
use Rattle.iova_c.specs.declared.answer.BoundsAnswer.{BoundsAnswer}
use Rattle.iova_c.specs.declared.answer.FlushesAnswer.{FlushesAnswer}
use Rattle.iova_c.specs.declared.answer.NumberAnswer.{NumberAnswer}

-- a call that answers so of what is in the slot, and leaves it
abbrev pub Reads : {A : Type 0} → (Option Paged → A) → Option Paged → A → Option Paged → Type 0
Reads tells old answer new = (answer ≡ tells old) × (new ≡ old)

-- where a frame is, in numbers
abbrev pub place_in_numbers : Option Place → PlaceAnswer
place_in_numbers None = record { refused = 0; kind = 0; number = 0 }
place_in_numbers (Some place.Free) = record { refused = 0; kind = 1; number = 0 }
place_in_numbers (Some place.Reserved) = record { refused = 0; kind = 2; number = 0 }
place_in_numbers (Some (place.Client id)) = record { refused = 0; kind = 3; number = id }
place_in_numbers (Some (place.Magazine worker)) = record { refused = 0; kind = 4; number = worker }
place_in_numbers (Some place.Depot) = record { refused = 0; kind = 5; number = 0 }
place_in_numbers (Some (place.Ring worker)) = record { refused = 0; kind = 6; number = worker }

abbrev pub place_answer : ℕ → Option Paged → PlaceAnswer
place_answer frame None = record { refused = refusal_number refusal.NoDomain; kind = 0; number = 0 }
place_answer frame (Some p) = place_in_numbers (place_inside p.domain frame)

abbrev pub counts_answer : Option Paged → CountsAnswer
counts_answer None = record {
  refused = refusal_number refusal.NoDomain;
  free = 0;
  reserved = 0;
  client = 0;
  magazine = 0;
  depot = 0;
  ring = 0;
  clients = 0;
  windows = 0;
}
counts_answer (Some p) = record {
  refused = 0;
  free = (counts p.domain).free;
  reserved = (counts p.domain).reserved;
  client = (counts p.domain).client;
  magazine = (counts p.domain).magazine;
  depot = (counts p.domain).depot;
  ring = (counts p.domain).ring;
  clients = length p.domain.clients;
  windows = length p.domain.windows;
}

abbrev pub some_totals : Totals → TotalsAnswer
some_totals t = record { refused = 0; count = t.count; frames = t.frames; sum_lo = t.sum_lo }

abbrev pub refused_totals : Refusal → TotalsAnswer
refused_totals r = record { refused = refusal_number r; count = 0; frames = 0; sum_lo = 0 }

-- over all clients
abbrev pub totals_answer : Option Paged → TotalsAnswer
totals_answer None = refused_totals refusal.NoDomain
totals_answer (Some p) = some_totals (totals p.domain.clients)

-- over the clients of a worker
abbrev pub share_answer : ℕ → Option Paged → TotalsAnswer
share_answer worker None = refused_totals refusal.NoDomain
share_answer worker (Some p) =
    if nat_lt worker p.domain.workers then some_totals (share_of worker p.domain.clients)
    else refused_totals refusal.NoWorker

abbrev pub one_if : Bool → ℕ
one_if false = 0
one_if true = 1

abbrev pub client_told : Option Client → ClientAnswer
client_told None =
    record { refused = refusal_number refusal.NoClient; worker = 0; closing = 0; holdings = 0 }
client_told (Some c) =
    record {
      refused = 0;
      worker = c.worker;
      closing = one_if c.closing;
      holdings = length c.holdings;
    }

abbrev pub client_answer : ℕ → Option Paged → ClientAnswer
client_answer id None =
    record { refused = refusal_number refusal.NoDomain; worker = 0; closing = 0; holdings = 0 }
client_answer id (Some p) = client_told (client_with id p.domain.clients)

abbrev pub bounds_answer : Option Paged → BoundsAnswer
bounds_answer None = record {
  refused = refusal_number refusal.NoDomain;
  start = 0;
  last = 0;
  magazine = 0;
  depot = 0;
  workers = 0;
}
bounds_answer (Some p) = record {
  refused = 0;
  start = p.domain.bounds.start;
  last = p.domain.bounds.last;
  magazine = p.domain.bounds.profile.mag;
  depot = p.domain.bounds.profile.depot;
  workers = p.domain.workers;
}

abbrev pub flushes_answer : Option Paged → FlushesAnswer
flushes_answer None = record {
  refused = refusal_number refusal.NoDomain;
  start = 0;
  finish = 0;
  owed = 0;
  newest = 0;
  good = 0;
  in_flight = 0;
}
flushes_answer (Some p) = record {
  refused = 0;
  start = p.domain.flushes.start;
  finish = p.domain.flushes.finish;
  owed = p.domain.flushes.owed;
  newest = p.domain.flushes.newest;
  good = p.domain.flushes.good;
  in_flight = length p.domain.flushes.in_flight;
}

-- how many bytes a frame has
abbrev pub granule_answer : Option Paged → NumberAnswer
granule_answer None = record { refused = refusal_number refusal.NoDomain; number = 0 }
granule_answer (Some p) = record { refused = 0; number = p.granule }
