-- What a request and an unmap make of what their client holds.
use Rattle.std.proofs.Common.{◌≡◌, ◌+◌, ◌==◌, ◌<◌, ◌≤◌, if◌then◌else◌, ℕ, Bool, true, false, cond, List, [], ◌∷◌, Option, Some, None, find, refl, sym, ap, ◌∙◌, arith, sum_by}
use Rattle.std.proofs.lemmas.Bool.Decides.{nat_tests}
use Rattle.std.proofs.lemmas.List.Sums.{sum_by-cons}
use Rattle.iova_range.specs.declared.refusal.Refusal.{Refusal}
use Rattle.iova_range.specs.Frames.{Frames}
use Rattle.iova_range.specs.Sizes.{need}
use Rattle.iova_model.specs.declared.step.Step.TheVariants as step
use Rattle.iova_model.specs.declared.step.Reply.TheVariants as reply
use Rattle.iova_model.specs.declared.step.Point.{Point}
use Rattle.iova_model.specs.Clients.{Client, client_with, client_of, change_client, with_holding, without_holding, begins_at}
use Rattle.iova_model.specs.State.{State}
use Rattle.iova_model.specs.Valid.{IsValid, Rises}
use Rattle.iova_model.specs.Next
use Rattle.iova_model.specs.Effects.{held_in, held_by}
use Rattle.iova_model.proofs.Unless.{unless_cases}
use Rattle.iova_laws.proofs.Finds.{owned, changed_found, walk_walked}
use Rattle.iova_laws.proofs.Kept.{found_valid}
use Rattle.iova_laws.proofs.Weights.{ranges_are, ranges-insert, ranges-remove}
use Rattle.iova_core.specs.Domain.{IsStepOf}

-- what is given comes to the client
pub record ComesTo (s : State) (id : ℕ) (r : Frames) (n : Next.Next) : Type 0 where
  pub client : Client
  pub found : client_with id s.clients ≡ Some client
  pub now : n.state.clients ≡ change_client id (with_holding r) s.clients

abbrev IfGiven : State → ℕ → Frames → Next.Next → Type 0
IfGiven s id r n = n.reply ≡ reply.Given r → ComesTo s id r n

no_gift : (s : State) (id : ℕ) (r : Frames) (x : Refusal) → IfGiven s id r (Next.refuse_step x s)
no_gift s id r x is = absurd (let bad : reply.Refused x ≡ reply.Given r = is in cc)

found_gift : (s t : State) (id size : ℕ) (r : Frames) (c : Client) (found : Next.Found) → client_with id s.clients ≡ Some c → t.clients ≡ s.clients → IfGiven s id r (Next.give found t id size)
found_gift s t id size r c Next.Nowhere known same is = absurd cc
found_gift s t id size r c Next.OutOfMemory known same is = absurd cc
found_gift s t id size r c (Next.At lo) known same is =
    let x : Frames = record { lo = lo; len = size } in
    let both : reply.Given x ≡ reply.Given r = is in
    let one : x ≡ r = cc in
    record {
      client = c;
      found = known;
      now = ap (λ (cs : List Client). change_client id (with_holding x) cs) same ∙ ap (λ (x : Frames). change_client id (with_holding x) s.clients) one;
    }

to_gift : (s : State) (w id size limit : ℕ) (m : Point) (r : Frames) (o : Option Client) → client_of w id s.clients ≡ o → IfGiven s id r (Next.alloc_to o s w id size limit m)
to_gift s w id size limit m r None is = no_gift s id r _
to_gift s w id size limit m r (Some c) is =
    let own = owned w id s.clients c is in
    let t = Next.walk s w c.sac size limit m in
    let same : t.state.clients ≡ s.clients = ap (λ (s : State). s.clients) (walk_walked s w c.sac size limit m).is in
    unless_cases (IfGiven s id r) s (Next.ledger_tests c m) (Next.give_from t id size) (λ x. no_gift s id r x) (λ all. found_gift s t.state id size r c t.found own.is same)

gift : (s : State) (w id frames limit : ℕ) (m : Point) (r : Frames) → IfGiven s id r (Next.alloc s w id frames limit m)
gift s w id frames limit m r =
    unless_cases (IfGiven s id r) s (Next.alloc_tests s w frames) (Next.alloc_to (client_of w id s.clients) s w id (need frames) limit m) (λ x. no_gift s id r x) (λ all. to_gift s w id (need frames) limit m r (client_of w id s.clients) refl)

-- by any weight
pub given_held : (weigh : Frames → ℕ) (s t : State) (w id frames limit : ℕ) (r : Frames) → IsStepOf s (step.Alloc w id frames limit) (reply.Given r) t
    → sum_by weigh (held_by id t.clients) ≡ weigh r + sum_by weigh (held_by id s.clients)
given_held weigh s t w id frames limit r st =
    let m = st.0 in
    let g = gift s w id frames limit m r (sym st.1) in
    let now : t.clients ≡ change_client id (with_holding r) s.clients = ap (λ (s : State). s.clients) st.2 ∙ g.now in
    let again = changed_found id (with_holding r) g.client s.clients g.found refl in
    let old : held_by id s.clients ≡ g.client.holdings = ap held_in g.found in
    let new : held_by id t.clients ≡ (with_holding r g.client).holdings = ap (λ (cs : List Client). held_by id cs) now ∙ ap held_in again in
    let more = ranges-insert weigh r g.client.holdings in
    let a = ranges_are weigh g.client.holdings in
    let b = ranges_are weigh (with_holding r g.client).holdings in
    let at_old = ap (λ l. sum_by weigh l) old in
    let at_new = ap (λ l. sum_by weigh l) new in
    omega (arith, more, a, b, at_old, at_new)

-- what is queued leaves the client
pub record GoesFrom (s : State) (id lo : ℕ) (q : Frames) (n : Next.Next) : Type 0 where
  pub client : Client
  pub found : client_with id s.clients ≡ Some client
  pub here : find (begins_at lo) client.holdings ≡ Some q
  pub now : n.state.clients ≡ change_client id (without_holding q.lo) s.clients

abbrev IfQueued : State → ℕ → ℕ → Frames → Next.Next → Type 0
IfQueued s id lo q n = n.reply ≡ reply.Queued q → GoesFrom s id lo q n

no_queue : (s : State) (id lo : ℕ) (q : Frames) (x : Refusal) → IfQueued s id lo q (Next.refuse_step x s)
no_queue s id lo q x is = absurd (let bad : reply.Refused x ≡ reply.Queued q = is in cc)

held_queue : (s : State) (w id lo : ℕ) (q : Frames) (c : Client) (o : Option Frames) → client_with id s.clients ≡ Some c → find (begins_at lo) c.holdings ≡ o → IfQueued s id lo q (Next.unmap_held o s w id)
held_queue s w id lo q c None known here = no_queue s id lo q _
held_queue s w id lo q c (Some r) known here =
    let d = Next.after_drain s w w in
    unless_cases (IfQueued s id lo q) s (Next.full_tests d w) (record { reply = reply.Queued r; state = Next.with_entry d w id r }) (λ x. no_queue s id lo q x) (λ all is.
    let both : reply.Queued r ≡ reply.Queued q = is in
    let one : r ≡ q = cc in
    record {
      client = c;
      found = known;
      here = here ∙ ap (λ (r : Frames). Some r) one;
      now = ap (λ (r : Frames). change_client id (without_holding r.lo) s.clients) one;
    })

of_queue : (s : State) (w id lo : ℕ) (q : Frames) (o : Option Client) → client_of w id s.clients ≡ o → IfQueued s id lo q (Next.unmap_of o s w id lo)
of_queue s w id lo q None is = no_queue s id lo q _
of_queue s w id lo q (Some c) is =
    let own = owned w id s.clients c is in
    unless_cases (IfQueued s id lo q) s (Next.closing_tests c) (Next.unmap_held (find (begins_at lo) c.holdings) s w id) (λ x. no_queue s id lo q x) (λ all. held_queue s w id lo q c (find (begins_at lo) c.holdings) own.is refl)

queued : (s : State) (w id lo : ℕ) (q : Frames) → IfQueued s id lo q (Next.unmap s w id lo)
queued s w id lo q =
    unless_cases (IfQueued s id lo q) s (Next.worker_tests s w) (Next.unmap_of (client_of w id s.clients) s w id lo) (λ x. no_queue s id lo q x) (λ all. of_queue s w id lo q (client_of w id s.clients) refl)

begins : (lo : ℕ) (rs : List Frames) (r : Frames) → find (begins_at lo) rs ≡ Some r → r.lo ≡ lo
begins lo [] r is = absurd (let bad : ◌≡◌ {A = Option Frames} None (Some r) = is in cc)
begins lo (x ∷ rs) r is = step (x.lo == lo) refl is (λ rest. begins lo rs r rest)
  where
    step : (b : Bool) → (x.lo == lo) ≡ b → cond b (Some x) (find (begins_at lo) rs) ≡ Some r → (find (begins_at lo) rs ≡ Some r → r.lo ≡ lo) → r.lo ≡ lo
    step true at here later =
        let same : x ≡ r = let both : Some x ≡ Some r = here in cc in
        let begun : x.lo ≡ lo = grind (arith, nat_tests) in
        rw same at begun
    step false at here later = later here

pub queued_held : (weigh : Frames → ℕ) (s t : State) (w id lo : ℕ) (q : Frames) → IsStepOf s (step.Unmap w id lo) (reply.Queued q) t
    → (sum_by weigh (held_by id s.clients) ≡ weigh q + sum_by weigh (held_by id t.clients)) × (q.lo ≡ lo)
queued_held weigh s t w id lo q st =
    let g = queued s w id lo q (sym st.1) in
    let at = begins lo g.client.holdings q g.here in
    let now : t.clients ≡ change_client id (without_holding q.lo) s.clients = ap (λ (s : State). s.clients) st.2 ∙ g.now in
    let again = changed_found id (without_holding q.lo) g.client s.clients g.found refl in
    let old : held_by id s.clients ≡ g.client.holdings = ap held_in g.found in
    let new : held_by id t.clients ≡ (without_holding q.lo g.client).holdings = ap (λ (cs : List Client). held_by id cs) now ∙ ap held_in again in
    let first : find (begins_at q.lo) g.client.holdings ≡ Some q = ap (λ (n : ℕ). find (begins_at n) g.client.holdings) at ∙ g.here in
    let less = ranges-remove weigh q.lo q g.client.holdings first in
    let a = ranges_are weigh g.client.holdings in
    let b = ranges_are weigh (without_holding q.lo g.client).holdings in
    let at_old = ap (λ l. sum_by weigh l) old in
    let at_new = ap (λ l. sum_by weigh l) new in
    (omega (arith, less, a, b, at_old, at_new), at)

-- A range of a client is identified by its first frame.

abbrev is_range : Frames → Frames → ℕ
is_range r x = if x.lo == r.lo then (if x.len == r.len then 1 else 0) else 0

one_range : (x r : Frames) → x.lo ≡ r.lo → x.len ≡ r.len → x ≡ r
one_range x r lo len = ap (λ (n : ℕ). record { lo = n; len = x.len }) lo ∙ ap (λ (n : ℕ). record { lo = r.lo; len = n }) len

none_above : (r : Frames) (from : ℕ) (xs : List Frames) → Rises from xs → r.lo < from → sum_by (is_range r) xs ≡ 0
none_above r from [] rises lt = refl
none_above r from (x ∷ xs) rises lt =
    let rest = none_above r (x.lo + 1) xs rises.1 (omega (arith, rises.0)) in
    let more = sum_by-cons (is_range r) x xs in
    let low = rises.0 in
    grind (arith, nat_tests)

one_found : (lo : ℕ) (q r : Frames) (from : ℕ) (xs : List Frames) → Rises from xs → find (begins_at lo) xs ≡ Some q → r.lo ≡ lo → 1 ≤ sum_by (is_range r) xs → q ≡ r
one_found lo q r from [] rises found at some = absurd (let bad : ◌≡◌ {A = Option Frames} None (Some q) = found in cc)
one_found lo q r from (x ∷ xs) rises found at some = step (x.lo == lo) refl found (λ rest here. one_found lo q r (x.lo + 1) xs rises.1 rest at here)
  where
    step : (b : Bool) → (x.lo == lo) ≡ b → cond b (Some x) (find (begins_at lo) xs) ≡ Some q → (find (begins_at lo) xs ≡ Some q → 1 ≤ sum_by (is_range r) xs → q ≡ r) → q ≡ r
    step true is here later =
        let same : x ≡ q = let both : Some x ≡ Some q = here in cc in
        let begun : x.lo ≡ lo = grind (arith, nat_tests) in
        let rest = none_above r (x.lo + 1) xs rises.1 (omega (arith, begun, at)) in
        let more = sum_by-cons (is_range r) x xs in
        let long : x.len ≡ r.len = grind (arith, nat_tests) in
        let first : x.lo ≡ r.lo = begun ∙ sym at in
        sym same ∙ one_range x r first long
    step false is here later =
        let more = sum_by-cons (is_range r) x xs in
        let none : is_range r x ≡ 0 = grind (arith, nat_tests) in
        later here (omega (arith, more, none, some))

-- what the domain takes back from a client is what the client has there
pub same_range : (s t : State) (w id lo : ℕ) (q r : Frames) (rest : List Frames) → IsValid s → IsStepOf s (step.Unmap w id lo) (reply.Queued q) t
    → ((weigh : Frames → ℕ) → sum_by weigh (held_by id s.clients) ≡ weigh r + sum_by weigh rest) → r.lo ≡ lo → q ≡ r
same_range s t w id lo q r rest valid st has at =
    let g = queued s w id lo q (sym st.1) in
    let own = found_valid s.workers id g.client s.clients s.serial g.found valid.clients in
    let old : held_by id s.clients ≡ g.client.holdings = ap held_in g.found in
    let same = ap (λ l. sum_by (is_range r) l) old in
    let self : is_range r r ≡ 1 = grind (arith, nat_tests) in
    let some : 1 ≤ sum_by (is_range r) g.client.holdings = omega (arith, same, has (is_range r), self) in
    one_found lo q r 0 g.client.holdings own.rising g.here at some
