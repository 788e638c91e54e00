-- What a domain keeps, step by step.
use Rattle.std.proofs.Common.{ℕ, zero, suc, ◌≡◌, ◌+◌, ◌<◌, ◌≤◌, ◌++◌, Bool, false, List, [], ◌∷◌, Some, None, refl, sym, ap, ◌∙◌, subst, arith, replicate, sum_by, map}
use Rattle.std.proofs.lemmas.Bool.Decides.{nat_tests}
use Rattle.iova_range.specs.Frames.{Frames}
use Rattle.iova_range.specs.Bounds.{Extent, IsExtent}
use Rattle.iova_model.specs.declared.step.Step.{Step}
use Rattle.iova_model.specs.declared.step.Step.TheVariants as step
use Rattle.iova_model.specs.declared.step.Point.{Point}
use Rattle.iova_model.specs.declared.step.Point.TheVariants as point
use Rattle.iova_model.specs.Caches.{new_caches}
use Rattle.iova_model.specs.Flushes.{Flushes}
use Rattle.iova_model.specs.State.{new_domain}
use Rattle.iova_model.specs.Valid.{IsValid}
use Rattle.iova_model.specs.Laws.{NewDomainsAreValid, StepsKeepValidity}
use Rattle.iova_model.specs.Next.{Next, next, no_worker, with_new_client, with_flushes, with_clients}
use Rattle.iova_tree.specs.Space.{Space, IsSpace, ranges_of}
use Rattle.iova_clients.specs.Registry.{Registry, open_refusal}
use Rattle.iova_model.specs.Clients.{Client, new_client, client_with, change_client, with_mark, without_client}
use Rattle.iova_core.proofs.Reductions.{open_taken}
use Rattle.iova_depot.specs.Cached.{Cached, new_cached}
use Rattle.iova_core.specs.Tied.{IsTied}
use Rattle.iova_core.specs.Domain.{Parts, state_of, IsDomain}
use Rattle.iova_core.proofs.Ties.{tied_load, load_tied}
use Rattle.iova_laws.proofs.Weights as weight
use Rattle.iova_laws.proofs.Moves.{IsMoved, flushes_moved, opened_moved, marked_moved, forgotten_moved}
use Rattle.iova_laws.proofs.Kept.{with_marked_valid, without_client_valid}

-- A new domain.

map-replicate : {A B : Type 0} (f : A → B) (n : ℕ) (x : A) → map f (replicate n x) ≡ replicate n (f x)
map-replicate f zero x = refl
map-replicate f (suc n) x = ap (λ ys. f x ∷ ys) (map-replicate f n x)

magazines_none : (weigh : Frames → ℕ) (n : ℕ) → weight.magazines weigh (new_caches n).workers ≡ 0
magazines_none weigh zero = refl
magazines_none weigh (suc n) = omega (arith, magazines_none weigh n)

rings_none : (weigh : Frames → ℕ) (n : ℕ) → weight.rings weigh (replicate n []) ≡ 0
rings_none weigh zero = refl
rings_none weigh (suc n) = omega (arith, rings_none weigh n)

pub domain_new : NewDomainsAreValid → (p : Parts) (bounds : Extent) (workers : ℕ) → state_of p ≡ new_domain bounds workers → p.tree ≡ record { bounds = bounds; inserted = []; windows = [] } → p.cached ≡ new_cached bounds.profile workers → IsSpace p.tree → IsExtent bounds → 1 ≤ workers → workers ≤ 16 → p.reserved ≡ 0 → IsDomain p
domain_new law p bounds workers is tree cached space extent some few counted = record {
  valid = subst IsValid (sym is) (law bounds workers extent some few);
  tied =
      let none : IsTied [] (new_domain bounds workers) = load_tied [] (new_domain bounds workers) (λ weigh. omega (arith, rings_none weigh workers, magazines_none weigh workers)) in
      subst (λ t. IsTied (ranges_of t) (state_of p)) (sym tree) (subst (IsTied []) (sym is) none);
  space = space;
  profile = ap (λ (x : Cached). x.profile) cached ∙ sym (ap (λ (t : Space). t.bounds.profile) tree);
  counted = counted ∙ sym (ap (λ (t : Space). sum_by (λ r. r.len) t.windows) tree);
}

-- A step that leaves what other parts make.
pub domain_step : StepsKeepValidity → (p q : Parts) (st : Step) (m : Point) → IsDomain p → (next (state_of p) st m).state ≡ state_of q → IsTied (ranges_of q.tree) (state_of q) → IsSpace q.tree → q.cached.profile ≡ q.tree.bounds.profile → q.reserved ≡ sum_by (λ r. r.len) q.tree.windows → IsDomain q
domain_step law p q st m h leaves tied space profile counted = record {
  valid = subst IsValid leaves (law (state_of p) st m h.valid);
  tied = tied;
  space = space;
  profile = profile;
  counted = counted;
}

-- Nothing has changed but the room that was made for more.
pub domain_same : (p q : Parts) → IsDomain p → q.tree ≡ p.tree → q.clients.clients ≡ p.clients.clients → q.clients.serial ≡ p.clients.serial → q.cached ≡ p.cached → q.rings ≡ p.rings → q.flushes ≡ p.flushes → q.reserved ≡ p.reserved → IsDomain q
domain_same p q h tree clients serial cached rings flushes reserved =
    let state : state_of q ≡ state_of p = rw (tree, clients, serial, cached, rings, flushes) refl in
    record {
      valid = subst IsValid (sym state) h.valid;
      tied = subst (λ s. IsTied (ranges_of q.tree) s) (sym state) (rw tree h.tied);
      space = rw tree h.space;
      profile = rw (tree, cached) h.profile;
      counted = rw (tree, reserved) h.counted;
    }

-- What somebody gained is inserted, and what became free is not.
pub tied_parts : (p q : Parts) (gained freed : List Frames) → IsDomain p → IsMoved (state_of p) (state_of q) gained freed → ((weigh : Frames → ℕ) → sum_by weigh q.tree.inserted + sum_by weigh freed ≡ sum_by weigh p.tree.inserted + sum_by weigh gained) → IsTied (ranges_of q.tree) (state_of q)
tied_parts p q gained freed h moved changes =
    load_tied q.tree.inserted (state_of q) (λ weigh.
    omega (arith, tied_load p.tree.inserted (state_of p) h.tied weigh, moved.balance weigh, changes weigh, weight.ranges_are weigh q.tree.inserted, weight.ranges_are weigh p.tree.inserted, weight.ranges_are weigh freed, weight.ranges_are weigh gained))

-- Clients, rings or flushes have changed alone.
pub domain_moved : (p q : Parts) → IsDomain p → IsValid (state_of q) → IsMoved (state_of p) (state_of q) [] [] → q.tree ≡ p.tree → q.cached ≡ p.cached → q.reserved ≡ p.reserved → IsDomain q
domain_moved p q h valid moved tree cached reserved = record {
  valid = valid;
  tied = tied_parts p q [] [] h moved (λ weigh. ap (λ (t : Space). sum_by weigh t.inserted + sum_by weigh []) tree);
  space = rw tree h.space;
  profile = rw (tree, cached) h.profile;
  counted = rw (tree, reserved) h.counted;
}

-- Flushes.

pub domain_flushes : (p : Parts) (f : Flushes) → IsDomain p → IsValid (with_flushes (state_of p) f) → IsDomain (record p { flushes = f })
domain_flushes p f h valid = domain_moved p (record p { flushes = f }) h valid (flushes_moved (state_of p) f) refl refl refl

-- Clients.

pub domain_clients : (p : Parts) (r : Registry) → IsDomain p → IsValid (with_clients (state_of p) r.clients) → IsMoved (state_of p) (with_clients (state_of p) r.clients) [] [] → r.serial ≡ p.clients.serial → IsDomain (record p { clients = r })
domain_clients p r h valid moved serial =
    let q : Parts = record p { clients = r } in
    let state : with_clients (state_of p) r.clients ≡ state_of q = ap (λ n. let s = with_clients (state_of p) r.clients in record s { serial = n }) (sym serial) in
    domain_moved p q h (subst IsValid state valid) (subst (λ s. IsMoved (state_of p) s [] []) state moved) refl refl refl

-- a domain whose ledger has more room or less
pub domain_room : (p : Parts) (r : Registry) → IsDomain p → r.clients ≡ p.clients.clients → r.serial ≡ p.clients.serial → IsDomain (record p { clients = r })
domain_room p r h clients serial = domain_same p (record p { clients = r }) h refl clients serial refl refl refl refl

pub domain_registry : (p : Parts) (r : Registry) → IsDomain p → r ≡ p.clients → IsDomain (record p { clients = r })
domain_registry p r h same = subst (λ x. IsDomain (record p { clients = x })) (sym same) h

-- a client was opened
pub domain_opened : StepsKeepValidity → (p : Parts) (r : Registry) (w : ℕ) (sac : Bool) → IsDomain p → w < p.cached.workers → open_refusal p.clients ≡ None → r.clients ≡ p.clients.clients ++ new_client (p.clients.serial + 1) w sac ∷ [] → r.serial ≡ p.clients.serial + 1 → IsDomain (record p { clients = r })
domain_opened law p r w sac h known none clients serial =
    let s = state_of p in
    let q : Parts = record p { clients = r } in
    let test : no_worker s w ≡ false = grind (arith, nat_tests) in
    let leaves : with_new_client s w sac ≡ state_of q = rw (clients, serial) refl in
    let taken : (next s (step.Open w sac) point.Never).state ≡ state_of q = ap (λ (n : Next). n.state) (open_taken s w sac test none) ∙ leaves in
    domain_moved p q h (subst IsValid taken (law s (step.Open w sac) point.Never h.valid)) (subst (λ t. IsMoved s t [] []) leaves (opened_moved s w sac)) refl refl refl

-- a client was marked
pub domain_marked : (p : Parts) (r : Registry) (id : ℕ) (c : Client) → IsDomain p → client_with id p.clients.clients ≡ Some c → r.clients ≡ change_client id with_mark p.clients.clients → r.serial ≡ p.clients.serial → IsDomain (record p { clients = r })
domain_marked p r id c h found clients serial =
    let s = state_of p in
    domain_clients p r h (subst (λ x. IsValid (with_clients s x)) (sym clients) (with_marked_valid s id c h.valid found)) (subst (λ x. IsMoved s (with_clients s x) [] []) (sym clients) (marked_moved s id)) serial

-- a client without holdings is gone
pub domain_forgotten : (p : Parts) (r : Registry) (id : ℕ) (c : Client) → IsDomain p → client_with id p.clients.clients ≡ Some c → c.holdings ≡ [] → r.clients ≡ without_client id p.clients.clients → r.serial ≡ p.clients.serial → IsDomain (record p { clients = r })
domain_forgotten p r id c h found none clients serial =
    let s = state_of p in
    domain_clients p r h (subst (λ x. IsValid (with_clients s x)) (sym clients) (without_client_valid s id c h.valid found none)) (subst (λ x. IsMoved s (with_clients s x) [] []) (sym clients) (forgotten_moved s id c found none)) serial
