-- What an unmap queues has addresses below 2^64.
use Rattle.std.proofs.Common.{ℕ, ◌≡◌, ◌≤◌, ◌<◌, ◌*◌, ◌^◌, ◌==◌, Bool, true, false, List, [], ◌∷◌, Option, Some, None, find, refl, sym, subst, arith}
use Rattle.std.specs.Prelude.{option_and_then, if◌then◌else◌}
use Rattle.std.specs.List.{AllByRecursion}
use Rattle.std.proofs.lemmas.Nat.{mul-le}
use Rattle.iova_range.specs.declared.limits.TheConstants.{MAX_FRAMES, MAX_GRANULE}
use Rattle.iova_range.specs.Frames.{Frames}
use Rattle.iova_model.specs.declared.step.Step.TheVariants as step
use Rattle.iova_model.specs.declared.step.Reply.{Reply}
use Rattle.iova_model.specs.declared.step.Reply.TheVariants as reply
use Rattle.iova_model.specs.declared.step.Point.{Point}
use Rattle.iova_model.specs.Clients.{Client, client_with, client_of, if_owned, has_id, begins_at}
use Rattle.iova_model.specs.State.{State}
use Rattle.iova_model.specs.Next.{next, no_worker}
use Rattle.iova_model.specs.Valid.{IsValid, IsClient, IsRequestSized}
use Rattle.iova_model.specs.Effects.{IsReplyTo, unmapped_of}
use Rattle.iova_model.specs.Laws.{QueuedWereHeld, StepsAreAnsweredInKind}
use Rattle.iova_c.specs.Answers.{HasAddresses}

-- what is found in a list is as all of the list is
found : {A : Type 0} (P : A → Type 0) (test : A → Bool) (x : A) (xs : List A) → AllByRecursion P xs → find test xs ≡ Some x → P x
found P test x [] all e = absurd cc
found P test x (y ∷ ys) all e = grind (arith, found P test x ys)

-- so a holding has no more frames than a request may
held_sized : (b : Bool) (lo : ℕ) (r : Frames) (rs : List Frames) → AllByRecursion IsRequestSized rs → (if b then None else find (begins_at lo) rs) ≡ Some r → r.len ≤ MAX_FRAMES
held_sized true lo r rs all e = absurd cc
held_sized false lo r rs all e = found IsRequestSized (begins_at lo) r rs all e

owner_sized : (b : Bool) (workers lo : ℕ) (r : Frames) (c : Client) → IsClient workers c → option_and_then (unmapped_of lo) (if b then Some c else None) ≡ Some r → r.len ≤ MAX_FRAMES
owner_sized true workers lo r c is e = held_sized c.closing lo r c.holdings is.sized e
owner_sized false workers lo r c is e = absurd cc

client_sized : (workers w lo : ℕ) (r : Frames) (o : Option Client) → ((c : Client) → o ≡ Some c → IsClient workers c) → option_and_then (unmapped_of lo) (option_and_then (if_owned w) o) ≡ Some r → r.len ≤ MAX_FRAMES
client_sized workers w lo r None is e = absurd cc
client_sized workers w lo r (Some c) is e = owner_sized (c.worker == w) workers lo r c (is c refl) e

queued_sized : (b : Bool) (s : State) (w id lo : ℕ) (r : Frames) → IsValid s → (if b then None else option_and_then (unmapped_of lo) (client_of w id s.clients)) ≡ Some r → r.len ≤ MAX_FRAMES
queued_sized true s w id lo r valid e = absurd cc
queued_sized false s w id lo r valid e =
    client_sized s.workers w lo r (client_with id s.clients) (λ c is. found (IsClient s.workers) (has_id id) c s.clients valid.clients.each is) e

pub queued_fits : (granule : ℕ) (s : State) (w id lo : ℕ) (m : Point) (r : Reply) → granule ≤ MAX_GRANULE → lo * granule < 2 ^ 64 → IsValid s → QueuedWereHeld
    → StepsAreAnsweredInKind → r ≡ (next s (step.Unmap w id lo) m).reply → HasAddresses granule r
queued_fits granule s w id lo m (reply.Queued r) most small valid held kind e =
    let at : r.lo ≡ lo = subst (IsReplyTo (step.Unmap w id lo)) (sym e) (kind s (step.Unmap w id lo) m) in
    let long : r.len ≤ MAX_FRAMES = queued_sized (no_worker s w) s w id lo r valid (held s (step.Unmap w id lo) m r (sym e)) in
    let much = mul-le r.len granule MAX_FRAMES MAX_GRANULE long most in
    (subst (λ x. x * granule < 2 ^ 64) (sym at) small, omega (arith, much))
queued_fits granule s w id lo m (reply.Given r) most small valid held kind e = absurd (subst (IsReplyTo (step.Unmap w id lo)) (sym e) (kind s (step.Unmap w id lo) m))
queued_fits granule s w id lo m (reply.Refused r) most small valid held kind e = tt
queued_fits granule s w id lo m (reply.Reserved r) most small valid held kind e = tt
queued_fits granule s w id lo m (reply.Opened r) most small valid held kind e = tt
queued_fits granule s w id lo m reply.Empty most small valid held kind e = tt
queued_fits granule s w id lo m (reply.Begun r) most small valid held kind e = tt
queued_fits granule s w id lo m reply.Ended most small valid held kind e = tt
queued_fits granule s w id lo m (reply.Drained r) most small valid held kind e = tt
queued_fits granule s w id lo m (reply.Marked r) most small valid held kind e = tt
