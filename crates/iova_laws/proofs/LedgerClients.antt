-- Where a client stands among the clients.
use Rattle.std.proofs.Common.{ℕ, ◌≡◌, Bool, true, false, List, [], ◌∷◌, ◌++◌, Some, refl, ap}
use Rattle.iova_model.specs.Clients.{Client, client_with, has_id, change_client}

-- The clients before it and those after it, which a change to it leaves.
pub record IsAmongClients (id : ℕ) (c : Client) (clients : List Client) : Type 0 where
  pub before : List Client
  pub later : List Client
  pub is : clients ≡ before ++ c ∷ later
  pub changes : (change : Client → Client) → change_client id change clients ≡ before ++ change c ∷ later

-- the first client is the one, or it stands before it
stands_step : (id : ℕ) (c x : Client) (clients : List Client) (b : Bool) → has_id id x ≡ b → client_with id (x ∷ clients) ≡ Some c
    → (client_with id clients ≡ Some c → IsAmongClients id c clients) → IsAmongClients id c (x ∷ clients)
stands_step id c x clients true same is further =
    let found = rw same at is in
    let one : x ≡ c = cc (found) in
    record {
      before = [];
      later = clients;
      is = ap (λ y. y ∷ clients) one;
      changes = λ change. rw same (ap (λ y. change y ∷ clients) one);
    }
stands_step id c x clients false other is further =
    let rest = further (rw other at is) in
    record {
      before = x ∷ rest.before;
      later = rest.later;
      is = ap (λ l. x ∷ l) rest.is;
      changes = λ change. rw other (ap (λ l. x ∷ l) (rest.changes change));
    }

-- a client that is found stands somewhere
pub stands : (id : ℕ) (c : Client) (clients : List Client) → client_with id clients ≡ Some c → IsAmongClients id c clients
stands id c [] is = absurd cc
stands id c (x ∷ clients) is = stands_step id c x clients (has_id id x) refl is (λ more. stands id c clients more)
