-- The clients keep their limits.
use Rattle.std.proofs.Common.{ℕ, ◌≡◌, ◌+◌, ◌-◌, ◌^◌, ◌<◌, ◌≤◌, Bool, true, false, List, [], ◌∷◌, ◌++◌, length, Some, refl, subst, arith, length-append}
use Rattle.std.specs.List.{AllByRecursion}
use Rattle.iova_range.specs.Frames.{Frames}
use Rattle.iova_model.specs.Clients.{Client, new_client, has_id, client_with, change_client, without_client, with_holding, without_holding, with_mark}
use Rattle.iova_model.specs.Valid.{IsRequestSized, IsClient, AreClients}
use Rattle.iova_laws.proofs.Weight as weight
use Rattle.iova_laws.proofs.Serials.{KeepsSerial, serials-push, serials-changed, serials-forgotten}
use Rattle.iova_laws.proofs.ValidLists.{all-push, all_found}
use Rattle.iova_laws.proofs.ValidRising.{begins, rises-insert, rises-remove, length-insert, length_remove_le, all-insert, all-remove}

-- A new client.

-- the clients with a new one
pub opened_valid : (workers : ℕ) (cs : List Client) (serial w : ℕ) (sac : Bool) → w < workers → serial < 2 ^ 63 - 1 → length cs < 1024 → AreClients workers cs serial → AreClients workers (cs ++ new_client (serial + 1) w sac ∷ []) (serial + 1)
opened_valid workers cs serial w sac below worn room h =
    let c = new_client (serial + 1) w sac in
    record {
      room = omega (arith, length-append cs (c ∷ []));
      serials = serials-push 0 cs serial c refl h.serials;
      worn = omega arith;
      each = all-push (IsClient workers) cs c (record { worker = below; room = omega arith; rising = tt; sized = tt }) h.each;
    }

-- A changed client.

module _ (id : ℕ) (change : Client → Client) (keeps : KeepsSerial change) where
  -- there are as many clients
  length-changed : (cs : List Client) → length (change_client id change cs) ≡ length cs
  length-changed [] = refl
  length-changed (c ∷ cs) = changed_step (length-changed cs) (has_id id c) refl
    where
      changed_step : length (change_client id change cs) ≡ length cs → (b : Bool) → has_id id c ≡ b → length (change_client id change (c ∷ cs)) ≡ length (c ∷ cs)
      changed_step more true is = rw is refl
      changed_step more false is = rw is (omega arith)

  -- what holds of all and of the changed one holds of all again
  all-changed : (P : Client → Type 0) (c : Client) (cs : List Client) → client_with id cs ≡ Some c → P (change c) → AllByRecursion P cs → AllByRecursion P (change_client id change cs)
  all-changed P c [] found here all = tt
  all-changed P c (x ∷ cs) found here all =
      changed_step (λ e. all-changed P c cs e here all.1) (has_id id x) refl
    where
      changed_step : (client_with id cs ≡ Some c → AllByRecursion P (change_client id change cs)) → (b : Bool) → has_id id x ≡ b → AllByRecursion P (change_client id change (x ∷ cs))
      changed_step more true is =
          let found' = rw is at found in
          let same : c ≡ x = cc (found') in
          rw is (subst (λ y. P (change y)) same here, all.1)
      changed_step more false is = rw is (all.0, more (rw is at found))

  -- the clients with a change to the one that is found
  pub changed_valid : (workers : ℕ) (c : Client) (cs : List Client) (serial : ℕ) → client_with id cs ≡ Some c → IsClient workers (change c) → AreClients workers cs serial → AreClients workers (change_client id change cs) serial
  changed_valid workers c cs serial found here h = record {
    room = omega (arith, length-changed cs, h.room);
    serials = serials-changed 0 id change cs serial keeps h.serials;
    worn = h.worn;
    each = all-changed (IsClient workers) c cs found here h.each;
  }

-- the client that is found has its limits
pub found_valid : (workers id : ℕ) (c : Client) (cs : List Client) (serial : ℕ) → client_with id cs ≡ Some c → AreClients workers cs serial → IsClient workers c
found_valid workers id c cs serial found h = all_found (IsClient workers) (has_id id) cs c found h.each

-- a client marked closing
pub marked_valid : (workers : ℕ) (c : Client) → IsClient workers c → IsClient workers (with_mark c)
marked_valid workers c h = record { worker = h.worker; room = h.room; rising = h.rising; sized = h.sized }

-- a client with one more range, which begins where none of its own does
pub with_holding_valid : (workers : ℕ) (c : Client) (r : Frames) → length c.holdings < 4096 → r.len ≤ 1048576 → weight.ranges (begins r.lo) c.holdings ≡ 0 → IsClient workers c → IsClient workers (with_holding r c)
with_holding_valid workers c r room sized none h = record {
  worker = h.worker;
  room = omega (arith, length-insert r c.holdings);
  rising = rises-insert 0 r c.holdings (omega arith) none h.rising;
  sized = all-insert IsRequestSized r c.holdings sized h.sized;
}

-- a client with one less
pub without_holding_valid : (workers : ℕ) (c : Client) (lo : ℕ) → IsClient workers c → IsClient workers (without_holding lo c)
without_holding_valid workers c lo h = record {
  worker = h.worker;
  room = omega (arith, length_remove_le lo c.holdings, h.room);
  rising = rises-remove 0 lo c.holdings h.rising;
  sized = all-remove IsRequestSized lo c.holdings h.sized;
}

-- A client goes.

-- there are no more clients
length_forgotten_le : (id : ℕ) (cs : List Client) → length (without_client id cs) ≤ length cs
length_forgotten_le id [] = omega arith
length_forgotten_le id (c ∷ cs) = forgotten_step (length_forgotten_le id cs) (has_id id c) refl
  where
    forgotten_step : length (without_client id cs) ≤ length cs → (b : Bool) → has_id id c ≡ b → length (without_client id (c ∷ cs)) ≤ length (c ∷ cs)
    forgotten_step more true is = rw is (omega arith)
    forgotten_step more false is = rw is (omega arith)

-- what held of all holds of the others
all-forgotten : (P : Client → Type 0) (id : ℕ) (cs : List Client) → AllByRecursion P cs → AllByRecursion P (without_client id cs)
all-forgotten P id [] all = tt
all-forgotten P id (c ∷ cs) all = forgotten_step (all-forgotten P id cs all.1) (has_id id c) refl
  where
    forgotten_step : AllByRecursion P (without_client id cs) → (b : Bool) → has_id id c ≡ b → AllByRecursion P (without_client id (c ∷ cs))
    forgotten_step more true is = rw is all.1
    forgotten_step more false is = rw is (all.0, more)

-- the clients without one
pub forgotten_valid : (workers id : ℕ) (cs : List Client) (serial : ℕ) → AreClients workers cs serial → AreClients workers (without_client id cs) serial
forgotten_valid workers id cs serial h = record {
  room = omega (arith, length_forgotten_le id cs, h.room);
  serials = serials-forgotten 0 id cs serial h.serials;
  worn = h.worn;
  each = all-forgotten (IsClient workers) id cs h.each;
}
