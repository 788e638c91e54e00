-- Which client has a serial, before and after a step.
use Rattle.std.proofs.Common.{ℕ, ◌≡◌, ◌≢◌, ◌≤◌, List, [], ◌∷◌, ◌++◌, Some, None, refl, arith}
use Rattle.std.proofs.lemmas.Bool.Decides.{nat_tests}
use Rattle.iova_model.specs.declared.step.Step.{Step}
use Rattle.iova_model.specs.declared.step.Reply.{Reply}
use Rattle.iova_model.specs.Clients.{Client, client_with, change_client, without_client, with_holding, without_holding, with_mark}
use Rattle.iova_model.specs.State.{State}
use Rattle.iova_laws.proofs.Serials.{KeepsSerial}
use Rattle.iova_laws.proofs.Outcomes.{Outcome, opens, gives, unmaps, closes, queues_lowest, only_marks, forgets}

-- a new client goes last
pub found-push : (id : ℕ) (clients : List Client) (new c : Client) → client_with id clients ≡ Some c → client_with id (clients ++ new ∷ []) ≡ Some c
found-push id [] new c is = absurd cc
found-push id (x ∷ cs) new c is = grind (arith, nat_tests, found-push id cs new c)

-- another serial's client is changed
pub found-changed_other : (id other : ℕ) (change : Client → Client) (clients : List Client) → KeepsSerial change → other ≢ id → client_with id (change_client other change clients) ≡ client_with id clients
found-changed_other id other change [] keeps apart = refl
found-changed_other id other change (x ∷ cs) keeps apart = grind (arith, nat_tests, found-changed_other id other change cs keeps apart, keeps x)

-- or forgotten
pub found-forgotten_other : (id other : ℕ) (clients : List Client) → other ≢ id → client_with id (without_client other clients) ≡ client_with id clients
found-forgotten_other id other [] apart = refl
found-forgotten_other id other (x ∷ cs) apart = grind (arith, nat_tests, found-forgotten_other id other cs apart)

-- no client gets a serial by a change
pub none-changed : (id other : ℕ) (change : Client → Client) (clients : List Client) → KeepsSerial change → client_with id clients ≡ None → client_with id (change_client other change clients) ≡ None
none-changed id other change [] keeps none = refl
none-changed id other change (x ∷ cs) keeps none = grind (arith, nat_tests, none-changed id other change cs keeps, keeps x)

-- or where one goes
pub none-forgotten : (id other : ℕ) (clients : List Client) → client_with id clients ≡ None → client_with id (without_client other clients) ≡ None
none-forgotten id other [] none = refl
none-forgotten id other (x ∷ cs) none = grind (arith, nat_tests, none-forgotten id other cs)

-- or by a client with another serial
pub none-push : (id : ℕ) (clients : List Client) (new : Client) → client_with id clients ≡ None → new.id ≢ id → client_with id (clients ++ new ∷ []) ≡ None
none-push id [] new none apart = grind (arith, nat_tests)
none-push id (x ∷ cs) new none apart = grind (arith, nat_tests, none-push id cs new)

-- After a step.

-- no serial is taken back
pub serial_grows : (s : State) {st : Step} {r : Reply} {t : State} → Outcome s st r t → s.serial ≤ t.serial
serial_grows s (opens w sac) = omega arith
serial_grows s o = omega arith

-- who is gone stays gone
pub gone-next : (s : State) {st : Step} {r : Reply} {t : State} → Outcome s st r t → (id : ℕ) → id ≤ s.serial → client_with id s.clients ≡ None → client_with id t.clients ≡ None
gone-next s (opens w sac) id old none = none-push id s.clients _ none (λ e. absurd (omega arith))
gone-next s (gives w other frames limit c r caches is still_open) id old none = none-changed id other (with_holding r) s.clients (λ c. refl) none
gone-next s (unmaps w other lo c r known is still_open held) id old none = none-changed id other (without_holding r.lo) s.clients (λ c. refl) none
gone-next s (closes w other c is) id old none = none-changed id other with_mark s.clients (λ c. refl) none
gone-next s (queues_lowest w other c r rs known is lowest) id old none =
    none-changed id other (without_holding r.lo) (change_client other with_mark s.clients) (λ c. refl) (none-changed id other with_mark s.clients (λ c. refl) none)
gone-next s (only_marks w other c is) id old none = none-changed id other with_mark s.clients (λ c. refl) none
gone-next s (forgets w other c is empty) id old none = none-forgotten id other s.clients none
gone-next s o id old none = none
