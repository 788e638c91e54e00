-- A round of tries where nobody else holds a range and no call of the sink fails: each client that waits ends, and nobody holds anything.
use Rattle.std.proofs.Common.{ℕ, zero, suc, ◌≡◌, ◌≢◌, ◌+◌, ◌<◌, ◌≤◌, ◌⊎◌, inl, inr, Bool, true, false, List, [], ◌∷◌, ◌++◌, Option, Some, None, refl, sym, ap, ◌∙◌, subst, arith, length}
use Rattle.std.specs.Prelude.{Result, Ok, Err, Contains, IfSome, slice_index_or, option_and_then}
use Rattle.std.specs.List.{AllByRecursion}
use Rattle.std.proofs.lemmas.Bool.{cases_eq}
use Rattle.std.proofs.lemmas.Bool.Decides.{nat_tests}
use Rattle.iova_range.specs.Frames.{Frames}
use Rattle.iova_model.specs.Clients.{Client, client_with, client_of, has_id, if_owned, without_client, all_holdings, holdings_in}
use Rattle.iova_model.specs.State.{State}
use Rattle.iova_model.specs.Valid.{SerialsRise}
use Rattle.iova_model.specs.Laws.{StepsKeepValidity}
use Rattle.iova_sink.specs.declared.sink.SinkFault.{SinkFault}
use Rattle.iova_sink.specs.Calls.{Call, Gone, good_in, good_calls, failed_calls}
use Rattle.iova_keep.specs.Views.{SeatState, WhereKnown, IsKept}
use Rattle.iova_session.specs.declared.leaving.Leaving.{Leaving}
use Rattle.iova_session.specs.declared.leaving.Attempt.{Attempt}
use Rattle.iova_session.specs.Leaving.{IsTold, EndsAfter, Attempts}
use Rattle.iova_session.specs.Posts.{Retries, RetriesAll, kept_if}
use Rattle.iova_session.specs.Gone.{IsOneOf, EndsAll, EndsWhereGood}
use Rattle.iova_session.proofs.Gone.{forgotten_is_gone}
use Rattle.iova_session.proofs.LoneEnds.{Calm, lone_end, end_rises, failed_append}

-- Who holds a range.

one_less : (id x : ℕ) (ids : List ℕ) (k : ℕ) → k < length (id ∷ ids) → slice_index_or (id ∷ ids) k x ≡ x → (x ≡ id → ⊥) → Contains ids x
one_less id x ids zero lt is other = absurd (other (sym is))
one_less id x ids (suc k) lt is other = (k, omega (arith, lt), is)

-- another client is one of the others
is_other : (w id : ℕ) (ids : List ℕ) (c : Client) → (c.id ≡ id → ⊥) → IsOneOf w (id ∷ ids) c → IsOneOf w ids c
is_other w id ids c other h = λ some. let both = h some in (both.0, one_less id c.id ids both.1.0 both.1.1 both.1.2 other)

-- so are all above it
above_others : (w id low : ℕ) (ids : List ℕ) (cs : List Client) (top : ℕ) → SerialsRise low cs top → id ≤ low → AllByRecursion (IsOneOf w (id ∷ ids)) cs → AllByRecursion (IsOneOf w ids) cs
above_others w id low ids [] top rise le each = tt
above_others w id low ids (x ∷ cs) top rise le each =
    let lt = rise.0 in
    (is_other w id ids x (λ e. omega (arith, lt, le, e)) each.0, above_others w id x.id ids cs top rise.1 (omega (arith, lt, le)) each.1)

same_id : (id : ℕ) (x : Client) → has_id id x ≡ true → id ≤ x.id
same_id id x e = grind (arith, nat_tests)

other_id : (id : ℕ) (x : Client) → has_id id x ≡ false → x.id ≡ id → ⊥
other_id id x e is = grind (arith, nat_tests)

-- one that is forgotten leaves the others
forgotten_step : (w id : ℕ) (ids : List ℕ) (x : Client) (cs : List Client) (b : Bool) → has_id id x ≡ b → (id ≤ x.id → AllByRecursion (IsOneOf w ids) cs) → ((x.id ≡ id → ⊥) → IsOneOf w ids x)
    → AllByRecursion (IsOneOf w ids) (without_client id cs) → AllByRecursion (IsOneOf w ids) (without_client id (x ∷ cs))
forgotten_step w id ids x cs true e above other further = rw e (above (same_id id x e))
forgotten_step w id ids x cs false e above other further = rw e (other (other_id id x e), further)

forgotten_others : (w id low : ℕ) (ids : List ℕ) (cs : List Client) (top : ℕ) → SerialsRise low cs top → AllByRecursion (IsOneOf w (id ∷ ids)) cs → AllByRecursion (IsOneOf w ids) (without_client id cs)
forgotten_others w id low ids [] top rise each = tt
forgotten_others w id low ids (x ∷ cs) top rise each =
    forgotten_step w id ids x cs (has_id id x) refl (λ le. above_others w id x.id ids cs top rise.1 le each.1) (λ other. is_other w id ids x other each.0)
    (forgotten_others w id x.id ids cs top rise.1 each.1)

-- and where it isn't the worker's, it holds nothing
not_owned : (w : ℕ) (x : Client) → if_owned w x ≡ None → x.worker ≡ w → ⊥
not_owned w x none mine = grind (arith, nat_tests)

unseen_step : (w id : ℕ) (ids : List ℕ) (x : Client) (cs : List Client) (b : Bool) → has_id id x ≡ b → client_of w id (x ∷ cs) ≡ None → IsOneOf w (id ∷ ids) x → (id ≤ x.id → AllByRecursion (IsOneOf w ids) cs)
    → (client_of w id cs ≡ None → AllByRecursion (IsOneOf w ids) cs) → AllByRecursion (IsOneOf w ids) (x ∷ cs)
unseen_step w id ids x cs true e none first above further =
    let here : if_owned w x ≡ None = rw e at none in
    ((λ some. absurd (not_owned w x here (first some).0)), above (same_id id x e))
unseen_step w id ids x cs false e none first above further =
    let rest : client_of w id cs ≡ None = rw e at none in
    (is_other w id ids x (other_id id x e) first, further rest)

unseen_others : (w id low : ℕ) (ids : List ℕ) (cs : List Client) (top : ℕ) → SerialsRise low cs top → client_of w id cs ≡ None → AllByRecursion (IsOneOf w (id ∷ ids)) cs → AllByRecursion (IsOneOf w ids) cs
unseen_others w id low ids [] top rise none each = tt
unseen_others w id low ids (x ∷ cs) top rise none each =
    unseen_step w id ids x cs (has_id id x) refl none each.0 (λ le. above_others w id x.id ids cs top rise.1 le each.1) (λ rest. unseen_others w id x.id ids cs top rise.1 rest each.1)

nothing_in : (xs : List Frames) → ((xs ≢ []) → ⊥) → xs ≡ []
nothing_in [] none = refl
nothing_in (x ∷ xs) none = absurd (none (λ e. cc))

-- with none of them left, nobody holds anything
nobody_holds : (w : ℕ) (cs : List Client) → AllByRecursion (IsOneOf w []) cs → all_holdings cs ≡ []
nobody_holds w [] each = refl
nobody_holds w (c ∷ cs) each =
    let none : c.holdings ≡ [] = nothing_in c.holdings (λ some. let both = each.0 some in let lt = both.1.1 in omega (arith, lt)) in
    rw none (nobody_holds w cs each.1)

-- Who is gone.

other_found : (id j : ℕ) (cs : List Client) → (j ≡ id → ⊥) → client_with j (without_client id cs) ≡ client_with j cs
other_found id j [] other = refl
other_found id j (x ∷ cs) other = grind (arith, nat_tests, other_found id j cs other)

gone_step : (w id j : ℕ) (cs : List Client) (top : ℕ) → SerialsRise 0 cs top → client_of w j cs ≡ None → (j ≡ id) ⊎ (j ≡ id → ⊥) → client_of w j (without_client id cs) ≡ None
gone_step w id j cs top rise none (inl e) =
    subst (λ (k : ℕ). client_of w k (without_client id cs) ≡ None) (sym e) (ap (λ o. option_and_then (if_owned w) o) (forgotten_is_gone id 0 cs top rise))
gone_step w id j cs top rise none (inr other) = ap (λ o. option_and_then (if_owned w) o) (other_found id j cs other) ∙ none

gone_stays : (w id j : ℕ) (cs : List Client) (top : ℕ) → SerialsRise 0 cs top → client_of w j cs ≡ None → client_of w j (without_client id cs) ≡ None
gone_stays w id j cs top rise none = gone_step w id j cs top rise none (cases_eq j id)

-- what the end of one client leaves of those that hold, and of those that are gone
record After (w id : ℕ) (ids : List ℕ) (s t : State) : Type 0 where
  holders : AllByRecursion (IsOneOf w ids) t.clients
  gone : client_of w id t.clients ≡ None
  stays : (j : ℕ) → client_of w j s.clients ≡ None → client_of w j t.clients ≡ None

after_end : (w id : ℕ) (ids : List ℕ) (s t : State) → SerialsRise 0 s.clients s.serial → AllByRecursion (IsOneOf w (id ∷ ids)) s.clients
    → (t.clients ≡ without_client id s.clients) ⊎ ((t ≡ s) × (client_of w id s.clients ≡ None)) → After w id ids s t
after_end w id ids s t rise each (inl e) = record {
  holders = subst (λ (cs : List Client). AllByRecursion (IsOneOf w ids) cs) (sym e) (forgotten_others w id 0 ids s.clients s.serial rise each);
  gone = ap (client_of w id) e ∙ ap (λ o. option_and_then (if_owned w) o) (forgotten_is_gone id 0 s.clients s.serial rise);
  stays = λ j none. ap (client_of w j) e ∙ gone_stays w id j s.clients s.serial rise none;
}
after_end w id ids s t rise each (inr h) =
    let same = ap (λ (x : State). x.clients) h.0 in
    record {
      holders = subst (λ (cs : List Client). AllByRecursion (IsOneOf w ids) cs) (sym same) (unseen_others w id 0 ids s.clients s.serial rise h.1 each);
      gone = ap (client_of w id) same ∙ h.1;
      stays = λ j none. ap (client_of w j) same ∙ none;
    }

-- The calls of the sink.

good_gone : (calls : List Call) (domain client : ℕ) (ranges : List Frames) (answer : Result Unit SinkFault) → good_calls (calls ++ Gone domain client ranges answer ∷ []) ≡ good_calls calls
good_gone [] domain client ranges answer = refl
good_gone (c ∷ cs) domain client ranges answer = ap (λ n. good_in c + n) (good_gone cs domain client ranges answer)

-- no call of a client that is gone is a flush that ended well
pub told_good : (number id : ℕ) (held : List Frames) (answer : Result Unit SinkFault) (before now : List Call) → IsTold number id held answer before now → good_calls now ≡ good_calls before
told_good number id [] answer before now h = ap good_calls h.1
told_good number id (r ∷ rs) answer before now h = ap good_calls h ∙ good_gone before number id (r ∷ rs) answer

told_rises : (number id : ℕ) (held : List Frames) (answer : Result Unit SinkFault) (before now : List Call) → IsTold number id held answer before now → failed_calls before ≤ failed_calls now
told_rises number id [] answer before now h = let e = ap failed_calls h.1 in omega (arith, e)
told_rises number id (r ∷ rs) answer before now h =
    let e = ap failed_calls h ∙ failed_append before (Gone number id (r ∷ rs) answer ∷ []) in
    omega (arith, e)

told_well : (number id : ℕ) (held : List Frames) (answer : Result Unit SinkFault) (before now : List Call) → IsTold number id held answer before now → failed_calls now ≡ failed_calls before → answer ≡ Ok tt
told_well number id [] answer before now h good = h.0
told_well number id (r ∷ rs) (Ok u) before now h good = refl
told_well number id (r ∷ rs) (Err f) before now h good =
    absurd (let e = ap failed_calls h ∙ failed_append before (Gone number id (r ∷ rs) (Err f) ∷ []) in omega (arith, e, good))

module _ (law : StepsKeepValidity) (number : ℕ) where
  after_rises : (answer : Result Unit SinkFault) (seat : SeatState) (left : _) (id : ℕ) (held : List Frames) (l : Leaving) (before now : List Call) (s t : State) → EndsAfter answer seat left id held l number before now s t
      → failed_calls before ≤ failed_calls now
  after_rises (Ok u) seat left id held l before now s t h = end_rises law seat left id number l.ended before now s t h.1
  after_rises (Err f) seat left id held l before now s t h = let e = ap failed_calls h.3 in omega (arith, e)

  attempt_rises : (over : Bool) (seat left : SeatState) (id : ℕ) (a : Attempt) (before now : List Call) (s t : State) → Attempts over seat left id a number before now s t → failed_calls before ≤ failed_calls now
  attempt_rises true seat left id a before now s t h = let e = ap failed_calls h.3 in omega (arith, e)
  attempt_rises false seat left id a before now s t h =
      let d = h.1 in
      let told = told_rises number id (holdings_in (client_of seat.worker id s.clients)) d.answer before d.calls d.told in
      let ended = after_rises d.answer seat left.held id (holdings_in (client_of seat.worker id s.clients)) h.0 d.calls now s t d.ended in
      omega (arith, told, ended)

  round_rises : (over : Bool) (ids kept : List ℕ) (seat left : SeatState) (before now : List Call) (s t : State) → Retries over number ids kept seat left before now s t → failed_calls before ≤ failed_calls now
  round_rises over [] kept seat left before now s t h = let e = ap failed_calls h.2 in omega (arith, e)
  round_rises over (id ∷ ids) kept seat left before now s t (a, mid, calls, here, more, same, x, e, y) =
      let first = attempt_rises over seat mid id a before calls s here x in
      let rest = round_rises a.over ids more mid left calls now here t y in
      omega (arith, first, rest)

  -- the result of a try
  record Tried (seat left : SeatState) (id : ℕ) (a : Attempt) (s t : State) : Type 0 where
    kept : a.kept ≡ false
    over : a.over ≡ false
    calm : Calm left.held t
    clients : (t.clients ≡ without_client id s.clients) ⊎ ((t ≡ s) × (client_of seat.worker id s.clients ≡ None))

  attempt_ends : (seat left : SeatState) (id : ℕ) (a : Attempt) (before now : List Call) (s t : State) → Calm seat.held s → failed_calls now ≡ failed_calls before → Attempts false seat left id a number before now s t
      → Tried seat left id a s t
  attempt_ends seat left id a before now s t calm good (l, d, kept, over) =
      let held = holdings_in (client_of seat.worker id s.clients) in
      let told = told_rises number id held d.answer before d.calls d.told in
      let ended = after_rises d.answer seat left.held id held l d.calls now s t d.ended in
      let still : failed_calls d.calls ≡ failed_calls before = omega (arith, told, ended, good) in
      let well = told_well number id held d.answer before d.calls d.told still in
      let h : EndsAfter (Ok tt) seat left.held id held l number d.calls now s t = subst (λ (r : Result Unit SinkFault). EndsAfter r seat left.held id held l number d.calls now s t) well d.ended in
      let e = lone_end law seat left.held id number l.ended d.calls now s t calm (good ∙ sym still) h.1 in
      record { kept = kept ∙ e.over; over = over ∙ h.0; calm = e.calm; clients = e.clients }

  -- the result of a round
  record Emptied (w : ℕ) (ids kept : List ℕ) (s t : State) : Type 0 where
    ends : EndsAll w ids kept t
    stays : (j : ℕ) → client_of w j s.clients ≡ None → client_of w j t.clients ≡ None

  round_ends : (ids kept : List ℕ) (seat left : SeatState) (before now : List Call) (s t : State) → Calm seat.held s → AllByRecursion (IsOneOf seat.worker ids) s.clients → failed_calls now ≡ failed_calls before
      → Retries false number ids kept seat left before now s t → Emptied seat.worker ids kept s t
  round_ends [] kept seat left before now s t calm each good h =
      let same = ap (λ (x : State). x.clients) h.3 in
      record {
        ends = record { none = h.0; nobody = ap all_holdings same ∙ nobody_holds seat.worker s.clients each; gone = tt };
        stays = λ j none. ap (client_of seat.worker j) same ∙ none;
      }
  round_ends (id ∷ ids) kept seat left before now s t calm each good (a, mid, calls, here, more, same, x, e, y) =
      let first = attempt_rises false seat mid id a before calls s here x in
      let later = round_rises a.over ids more mid left calls now here t y in
      let one : failed_calls calls ≡ failed_calls before = omega (arith, first, later, good) in
      let tried = attempt_ends seat mid id a before calls s here calm one x in
      let after = after_end seat.worker id ids s here calm.valid.clients.serials each tried.clients in
      let goes : Retries false number ids more mid left calls now here t = subst (λ (b : Bool). Retries b number ids more mid left calls now here t) tried.over y in
      let rest = round_ends ids more mid left calls now here t tried.calm (subst (λ (w : ℕ). AllByRecursion (IsOneOf w ids) here.clients) (sym same) after.holders) (good ∙ sym one) goes in
      let so : Emptied seat.worker ids more here t = subst (λ (w : ℕ). Emptied w ids more here t) same rest in
      record {
        ends = record {
          none = e ∙ (ap (λ (b : Bool). kept_if b id ++ more) tried.kept ∙ so.ends.none);
          nobody = so.ends.nobody;
          gone = (so.stays id after.gone, so.ends.gone);
        };
        stays = λ j none. so.stays j (after.stays j none);
      }

  all_end : (room : ℕ) (ids kept : List ℕ) (seat left : SeatState) (before now : List Call) (s t : State) → IsKept s → RetriesAll room number ids kept seat left before now s t
      → EndsWhereGood room ids kept seat before now s t
  all_end room ids kept seat left before now s t known (true, few, h) = λ alone numbers good.
      absurd (let lt = few refl in let enough = numbers.room in omega (arith, lt, enough))
  all_end room ids kept seat left before now s t known (false, few, h) = λ alone numbers good.
      (round_ends ids kept seat left before now s t (record { valid = known.valid; shares = alone.shares; quiet = alone.quiet; numbers = numbers.flushes }) alone.holders good h).ends

  -- in a domain that is known
  pub ends_where_good : (room : ℕ) (ids kept : List ℕ) (seat left : SeatState) (before now : List Call) (o p : Option State) → IfSome o IsKept → WhereKnown o p (RetriesAll room number ids kept seat left before now)
      → WhereKnown o p (EndsWhereGood room ids kept seat before now)
  ends_where_good room ids kept seat left before now None p known h = tt
  ends_where_good room ids kept seat left before now (Some s) None known h = absurd h
  ends_where_good room ids kept seat left before now (Some s) (Some t) known h = all_end room ids kept seat left before now s t known h
