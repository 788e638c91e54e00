-- Ranges that come behind a list in any order, and are put in order there.
use Rattle.std.proofs.Common.{◌≡◌, ◌≤◌, ◌+◌, ◌++◌, ◌⊎◌, inl, inr, ℕ, List, [], ◌∷◌, Option, Some, None, Ok, Err, length, length-append, ap, arith, ◌∙◌}
use Rattle.std.specs.Prelude.{Result, OnOk, OnErr, IfErr, IfSome, option_and_then}
use Rattle.std.specs.List.{AllByRecursion}
use Rattle.std.proofs.lemmas.Bool.{cond_both}
use Rattle.iova_range.specs.declared.limits.TheConstants.{MAX_HOLDINGS}
use Rattle.iova_range.specs.declared.refusal.Refusal.{Refusal}
use Rattle.iova_range.specs.declared.refusal.Refusal.TheVariants as refusal
use Rattle.iova_range.specs.Frames.{Frames}
use Rattle.iova_model.specs.Clients.{Client, client_with, has_id, holdings_in}
use Rattle.iova_model.specs.Valid.{IsClient, Rises}
use Rattle.iova_clients.specs.Orders.{AppendsInAnyOrder}
use Rattle.iova_clients.specs.Registry.{AppendsHoldings}
use Rattle.iova_lock.specs.Books.{BookState, IsBook, AppendsHeld, HoldsInOrder}

-- a client's holdings, in any order
pub came_held : (o : Option Client) (r : Result Unit Refusal) (old new : List Frames) → IfSome o HoldsInOrder → AppendsHoldings o old new r → OnOk r (AppendsHeld old new)
came_held None (Ok u) old new held h = absurd (let bad : Ok u ≡ Err refusal.NoClient = h in cc)
came_held None (Err e) old new held h = tt
came_held (Some c) (Ok u) old new held h = record { held = c.holdings; few = held.0; rising = held.1; appends = h }
came_held (Some c) (Err e) old new held h = tt

pub came_err : (o : Option Client) (r : Result Unit Refusal) (old new : List Frames) → AppendsHoldings o old new r → OnErr r (new ≡ old) → IfErr r (λ e. ((e ≡ refusal.NoClient) ⊎ (e ≡ refusal.NoMemory)) × (new ≡ old))
came_err None (Ok u) old new h same = tt
came_err None (Err e) old new h same = (inl (cc (h)), same)
came_err (Some c) (Ok u) old new h same = tt
came_err (Some c) (Err e) old new h same = (inr h, same)

-- what is found of a client behind a serial rises
rising_in : (workers id : ℕ) (cs : List Client) → AllByRecursion (IsClient workers) cs → Rises 0 (holdings_in (client_with id cs))
rising_in workers id [] all = tt
rising_in workers id (x ∷ cs) all =
    cond_both (has_id id x) (Some x) (client_with id cs) (λ o. Rises 0 (holdings_in o)) (λ e. all.0.rising) (λ e. rising_in workers id cs all.1)

pub newer_rising : (b : BookState) (id : Option ℕ) → IsBook b → Rises 0 (holdings_in (option_and_then (λ i. client_with i b.state.clients) id))
newer_rising b None h = tt
newer_rising b (Some id) h = rising_in b.state.workers id b.state.clients h.domain.valid.clients.each

-- how long the list is once they are in order
pub held_most : (old mid new : List Frames) (from : ℕ) → length old ≡ from → AppendsHeld old mid
    → ((before rising : List Frames) → length before ≡ from → Rises 0 rising → AppendsInAnyOrder rising before mid → new ≡ before ++ rising)
    → length new ≤ length old + MAX_HOLDINGS
held_most old mid new from start h put =
    let long : length new ≡ length old + length h.held = ap length (put old h.held start h.rising h.appends) ∙ length-append old h.held in
    omega (arith, long, h.few)
