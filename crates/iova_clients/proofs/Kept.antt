-- What is true of all clients, as one of them changes, comes or goes.
use Rattle.std.proofs.Common.{◌≡◌, ◌≢◌, ℕ, suc, ◌+◌, ◌-◌, ◌^◌, ◌<◌, ◌≤◌, ◌==◌, Bool, true, false, cond, List, [], ◌∷◌, ◌++◌, length, None, Some, find, refl, sym, ap, ◌∙◌, subst, arith, length-append}
use Rattle.std.specs.Prelude.{nat_lt}
use Rattle.std.specs.List.{AllByRecursion}
use Rattle.std.specs.Map.{lookup}
use Rattle.std.proofs.lemmas.Bool.Decides.{nat_tests}
use Rattle.iova_range.specs.Frames.{Frames}
use Rattle.iova_model.specs.Clients.{Client, new_client, has_id, client_with, change_client, without_client, insert_rising, begins_at, remove_at, with_holding, without_holding}
use Rattle.iova_model.specs.Valid.{IsRequestSized, Rises, IsClient, SerialsRise}
use Rattle.iova_clients.specs.Registry.{Registry, HoldsLow, IsRegistry, is_serial}
use Rattle.iova_clients.specs.Accounts.{Account, client_at, clients_at}
use Rattle.iova_clients.proofs.Changed.{client_some}
use Rattle.iova_clients.proofs.Rising.{Rises-from}

-- Each client.

pub all_found : (P : Client → Type 0) (id : ℕ) (c : Client) (cs : List Client) → AllByRecursion P cs → client_with id cs ≡ Some c → P c
all_found P id c [] h q = absurd (let bad : None ≡ Some c = q in cc)
all_found P id c (x ∷ cs) h q = step (has_id id x) q (λ later. all_found P id c cs h.1 later)
  where
    step : (b : Bool) → cond b (Some x) (client_with id cs) ≡ Some c → (client_with id cs ≡ Some c → P c) → P c
    step true is ih = let mine : x ≡ c = cc in subst P mine h.0
    step false is ih = ih is

pub id_found : (id : ℕ) (c : Client) (cs : List Client) → client_with id cs ≡ Some c → c.id ≡ id
id_found id c [] q = absurd (let bad : None ≡ Some c = q in cc)
id_found id c (x ∷ cs) q = step (has_id id x) refl q (λ later. id_found id c cs later)
  where
    step : (b : Bool) → has_id id x ≡ b → cond b (Some x) (client_with id cs) ≡ Some c → (client_with id cs ≡ Some c → c.id ≡ id) → c.id ≡ id
    step true this is ih = let mine : x ≡ c = cc in let e : x.id ≡ id = grind (arith, nat_tests) in ap (λ y. y.id) (sym mine) ∙ e
    step false this is ih = ih is

pub all_changed : (P : Client → Type 0) (id : ℕ) (f : Client → Client) (c : Client) (cs : List Client) → AllByRecursion P cs → client_with id cs ≡ Some c → P (f c)
    → AllByRecursion P (change_client id f cs)
all_changed P id f c [] h q now = tt
all_changed P id f c (x ∷ cs) h q now = step (has_id id x) q (λ later. all_changed P id f c cs h.1 later now)
  where
    step : (b : Bool) → cond b (Some x) (client_with id cs) ≡ Some c → (client_with id cs ≡ Some c → AllByRecursion P (change_client id f cs))
        → AllByRecursion P (cond b (f x ∷ cs) (x ∷ change_client id f cs))
    step true is ih = let mine : c ≡ x = cc in (subst (λ y. P (f y)) mine now, h.1)
    step false is ih = (h.0, ih is)

pub all_forgotten : (P : Client → Type 0) (id : ℕ) (cs : List Client) → AllByRecursion P cs → AllByRecursion P (without_client id cs)
all_forgotten P id [] h = tt
all_forgotten P id (x ∷ cs) h = step (has_id id x) (all_forgotten P id cs h.1)
  where
    step : (b : Bool) → AllByRecursion P (without_client id cs) → AllByRecursion P (cond b cs (x ∷ without_client id cs))
    step true ih = h.1
    step false ih = (h.0, ih)

pub all_push : {X : Type 0} (P : X → Type 0) (x : X) (xs : List X) → AllByRecursion P xs → P x → AllByRecursion P (xs ++ x ∷ [])
all_push P x [] h now = (now, tt)
all_push P x (y ∷ xs) h now = (h.0, all_push P x xs h.1 now)

pub length-changed : (id : ℕ) (f : Client → Client) (cs : List Client) → length (change_client id f cs) ≡ length cs
length-changed id f [] = refl
length-changed id f (x ∷ cs) = step (has_id id x) (length-changed id f cs)
  where
    step : (b : Bool) → length (change_client id f cs) ≡ length cs → length (cond b (f x ∷ cs) (x ∷ change_client id f cs)) ≡ suc (length cs)
    step true ih = refl
    step false ih = ap (λ n. suc n) ih

length-forgotten : (id : ℕ) (cs : List Client) → length (without_client id cs) ≤ length cs
length-forgotten id [] = omega arith
length-forgotten id (x ∷ cs) = step (has_id id x) (length-forgotten id cs)
  where
    step : (b : Bool) → length (without_client id cs) ≤ length cs → length (cond b cs (x ∷ without_client id cs)) ≤ suc (length cs)
    step true ih = omega arith
    step false ih = let h : suc (length (without_client id cs)) ≤ suc (length cs) = omega arith in h

-- The serials.

pub SerialsRise-below : (low high : ℕ) (cs : List Client) (last : ℕ) → low ≤ high → SerialsRise high cs last → SerialsRise low cs last
SerialsRise-below low high [] last le h = omega arith
SerialsRise-below low high (c ∷ cs) last le h = (omega (arith, h.0), h.1)

pub SerialsRise-changed : (below id : ℕ) (f : Client → Client) (c : Client) (cs : List Client) (last : ℕ) → SerialsRise below cs last → client_with id cs ≡ Some c → (f c).id ≡ c.id
    → SerialsRise below (change_client id f cs) last
SerialsRise-changed below id f c [] last h q same = h
SerialsRise-changed below id f c (x ∷ cs) last h q same = step (has_id id x) q (λ later. SerialsRise-changed x.id id f c cs last h.1 later same)
  where
    step : (b : Bool) → cond b (Some x) (client_with id cs) ≡ Some c → (client_with id cs ≡ Some c → SerialsRise x.id (change_client id f cs) last)
        → SerialsRise below (cond b (f x ∷ cs) (x ∷ change_client id f cs)) last
    step true is ih =
        let mine : x ≡ c = cc in
        let kept : (f x).id ≡ x.id = rw mine same in
        rw kept h
    step false is ih = (h.0, ih is)

pub SerialsRise-forgotten : (below id : ℕ) (cs : List Client) (last : ℕ) → SerialsRise below cs last → SerialsRise below (without_client id cs) last
SerialsRise-forgotten below id [] last h = h
SerialsRise-forgotten below id (x ∷ cs) last h = step (has_id id x) (SerialsRise-forgotten x.id id cs last h.1)
  where
    step : (b : Bool) → SerialsRise x.id (without_client id cs) last → SerialsRise below (cond b cs (x ∷ without_client id cs)) last
    step true ih = SerialsRise-below below x.id cs last (omega (arith, h.0)) h.1
    step false ih = (h.0, ih)

pub SerialsRise-push : (below : ℕ) (cs : List Client) (last : ℕ) (c : Client) → SerialsRise below cs last → c.id ≡ last + 1 → SerialsRise below (cs ++ c ∷ []) (last + 1)
SerialsRise-push below [] last c h is = (omega arith, omega arith)
SerialsRise-push below (x ∷ cs) last c h is = (h.0, SerialsRise-push x.id cs last c h.1 is)

-- the last serial is no lower than the start
SerialsRise-last : (below : ℕ) (cs : List Client) (last : ℕ) → SerialsRise below cs last → below ≤ last
SerialsRise-last below [] last h = h
SerialsRise-last below (c ∷ cs) last h = let later = SerialsRise-last c.id cs last h.1 in omega (arith, h.0)

-- no serial is above the last
pub serials_below : (below : ℕ) (cs : List Client) (last : ℕ) → SerialsRise below cs last → AllByRecursion (λ (c : Client). c.id ≤ last) cs
serials_below below [] last h = tt
serials_below below (c ∷ cs) last h = (SerialsRise-last c.id cs last h.1, serials_below c.id cs last h.1)

-- a serial that is not above the start is nobody's
pub client_with_none : (below id : ℕ) (cs : List Client) (last : ℕ) → SerialsRise below cs last → id ≤ below → client_with id cs ≡ None
client_with_none below id [] last h le = refl
client_with_none below id (c ∷ cs) last h le =
    let ne : c.id ≢ id = λ e. omega (arith, h.0, e) in
    let other : (c.id == id) ≡ false = grind (arith, nat_tests) in
    rw other (client_with_none c.id id cs last h.1 (omega (arith, h.0)))

-- one that is forgotten is gone
pub client_with-forgotten : (below id : ℕ) (cs : List Client) (last : ℕ) → SerialsRise below cs last → client_with id (without_client id cs) ≡ None
client_with-forgotten below id [] last h = refl
client_with-forgotten below id (x ∷ cs) last h = step (has_id id x) refl (client_with-forgotten x.id id cs last h.1)
  where
    step : (b : Bool) → has_id id x ≡ b → client_with id (without_client id cs) ≡ None → client_with id (cond b cs (x ∷ without_client id cs)) ≡ None
    step true is ih = let e : x.id ≡ id = grind (arith, nat_tests) in client_with_none x.id id cs last h.1 (omega arith)
    step false is ih = rw is ih

-- The registry.

pub IsRegistry-changed : (id : ℕ) (f : Client → Client) (c : Client) (r s : Registry) → IsRegistry r → client_with id r.clients ≡ Some c
    → (f c).id ≡ c.id → IsClient 16 (f c) → HoldsLow (f c) → s.clients ≡ change_client id f r.clients → s.serial ≡ r.serial → IsRegistry s
IsRegistry-changed id f c r s h q same is_client low clients serial = record {
  clients = rw (clients, serial) (record {
    room = omega (arith, length-changed id f r.clients, h.clients.room);
    serials = SerialsRise-changed 0 id f c r.clients r.serial h.clients.serials q same;
    worn = h.clients.worn;
    each = all_changed (IsClient 16) id f c r.clients h.clients.each q is_client;
  });
  low = rw clients (all_changed HoldsLow id f c r.clients h.low q low);
}

pub IsRegistry-forgotten : (id : ℕ) (r s : Registry) → IsRegistry r → s.clients ≡ without_client id r.clients → s.serial ≡ r.serial → IsRegistry s
IsRegistry-forgotten id r s h clients serial = record {
  clients = rw (clients, serial) (record {
    room = omega (arith, length-forgotten id r.clients, h.clients.room);
    serials = SerialsRise-forgotten 0 id r.clients r.serial h.clients.serials;
    worn = h.clients.worn;
    each = all_forgotten (IsClient 16) id r.clients h.clients.each;
  });
  low = rw clients (all_forgotten HoldsLow id r.clients h.low);
}

-- Holdings.

-- what is true of each holding stays so
pub all_inserted : (P : Frames → Type 0) (r : Frames) (hs : List Frames) → P r → AllByRecursion P hs → AllByRecursion P (insert_rising r hs)
all_inserted P r [] p h = (p, tt)
all_inserted P r (x ∷ hs) p h = step (nat_lt r.lo x.lo) (all_inserted P r hs p h.1)
  where
    step : (b : Bool) → AllByRecursion P (insert_rising r hs) → AllByRecursion P (cond b (r ∷ x ∷ hs) (x ∷ insert_rising r hs))
    step true ih = (p, h)
    step false ih = (h.0, ih)

pub all_removed : (P : Frames → Type 0) (lo : ℕ) (hs : List Frames) → AllByRecursion P hs → AllByRecursion P (remove_at lo hs)
all_removed P lo [] h = tt
all_removed P lo (x ∷ hs) h = step (begins_at lo x) (all_removed P lo hs h.1)
  where
    step : (b : Bool) → AllByRecursion P (remove_at lo hs) → AllByRecursion P (cond b hs (x ∷ remove_at lo hs))
    step true ih = h.1
    step false ih = (h.0, ih)

pub length-insert_rising : (r : Frames) (hs : List Frames) → length (insert_rising r hs) ≡ length hs + 1
length-insert_rising r [] = refl
length-insert_rising r (x ∷ hs) = step (nat_lt r.lo x.lo) (length-insert_rising r hs)
  where
    step : (b : Bool) → length (insert_rising r hs) ≡ length hs + 1 → length (cond b (r ∷ x ∷ hs) (x ∷ insert_rising r hs)) ≡ length (x ∷ hs) + 1
    step true ih = let e : suc (suc (length hs)) ≡ suc (length hs) + 1 = omega arith in e
    step false ih = let e : suc (length (insert_rising r hs)) ≡ suc (length hs) + 1 = omega arith in e

length-remove_at : (lo : ℕ) (hs : List Frames) → length (remove_at lo hs) ≤ length hs
length-remove_at lo [] = omega arith
length-remove_at lo (x ∷ hs) = step (begins_at lo x) (length-remove_at lo hs)
  where
    step : (b : Bool) → length (remove_at lo hs) ≤ length hs → length (cond b hs (x ∷ remove_at lo hs)) ≤ suc (length hs)
    step true ih = omega arith
    step false ih = let h : suc (length (remove_at lo hs)) ≤ suc (length hs) = omega arith in h

pub Rises-inserted : (from : ℕ) (r : Frames) (hs : List Frames) → Rises from hs → from ≤ r.lo → find (begins_at r.lo) hs ≡ None → Rises from (insert_rising r hs)
Rises-inserted from r [] h le new = (le, tt)
Rises-inserted from r (x ∷ hs) h le new = step (begins_at r.lo x) refl new (λ at none. Rises-inserted (x.lo + 1) r hs h.1 at none)
  where
    place : (b : Bool) → nat_lt r.lo x.lo ≡ b → x.lo ≢ r.lo → find (begins_at r.lo) hs ≡ None
        → (x.lo + 1 ≤ r.lo → find (begins_at r.lo) hs ≡ None → Rises (x.lo + 1) (insert_rising r hs))
        → Rises from (cond b (r ∷ x ∷ hs) (x ∷ insert_rising r hs))
    place true is ne none ih = let lt : r.lo < x.lo = grind (arith, nat_tests) in (le, (omega arith, h.1))
    place false is ne none ih = let at : x.lo ≤ r.lo = grind (arith, nat_tests) in (h.0, ih (omega (arith, ne)) none)

    step : (b : Bool) → begins_at r.lo x ≡ b → cond b (Some x) (find (begins_at r.lo) hs) ≡ None
        → (x.lo + 1 ≤ r.lo → find (begins_at r.lo) hs ≡ None → Rises (x.lo + 1) (insert_rising r hs))
        → Rises from (insert_rising r (x ∷ hs))
    step true is none ih = absurd (let bad : Some x ≡ None = none in cc)
    step false is none ih = let ne : x.lo ≢ r.lo = grind (arith, nat_tests) in place (nat_lt r.lo x.lo) refl ne none ih

pub Rises-removed : (from lo : ℕ) (hs : List Frames) → Rises from hs → Rises from (remove_at lo hs)
Rises-removed from lo [] h = tt
Rises-removed from lo (x ∷ hs) h = step (begins_at lo x) (Rises-removed (x.lo + 1) lo hs h.1)
  where
    step : (b : Bool) → Rises (x.lo + 1) (remove_at lo hs) → Rises from (cond b hs (x ∷ remove_at lo hs))
    step true ih = Rises-from from (x.lo + 1) hs (omega (arith, h.0)) h.1
    step false ih = (h.0, ih)

-- A client with one holding more, or less.

pub IsClient-given : (r : Frames) (c : Client) → IsClient 16 c → length c.holdings < 4096 → find (begins_at r.lo) c.holdings ≡ None → r.len ≤ 1048576
    → IsClient 16 (with_holding r c)
IsClient-given r c h room new sized = record {
  worker = h.worker;
  room = omega (arith, length-insert_rising r c.holdings);
  rising = Rises-inserted 0 r c.holdings h.rising (omega arith) new;
  sized = all_inserted IsRequestSized r c.holdings sized h.sized;
}

pub IsClient-taken : (lo : ℕ) (c : Client) → IsClient 16 c → IsClient 16 (without_holding lo c)
IsClient-taken lo c h = record {
  worker = h.worker;
  room = omega (arith, length-remove_at lo c.holdings, h.room);
  rising = Rises-removed 0 lo c.holdings h.rising;
  sized = all_removed IsRequestSized lo c.holdings h.sized;
}

-- What the registry says of the client that was found.

pub client_is : (id : ℕ) (es : List (ℕ × Account)) (a : Account) (r : Registry) → r.clients ≡ clients_at es → IsRegistry r → lookup (is_serial id) es ≡ Some a
    → IsClient 16 (client_at (id, a))
client_is id es a r is h found =
    all_found (IsClient 16) id (client_at (id, a)) (clients_at es) (rw is at h.clients.each) (client_some id es a found)

pub client_is_low : (id : ℕ) (es : List (ℕ × Account)) (a : Account) (r : Registry) → r.clients ≡ clients_at es → IsRegistry r → lookup (is_serial id) es ≡ Some a
    → HoldsLow (client_at (id, a))
client_is_low id es a r is h found =
    all_found HoldsLow id (client_at (id, a)) (clients_at es) (rw is at h.low) (client_some id es a found)

-- A new client, under the serial after the last.

pub IsClient-new : (id worker : ℕ) (sac : Bool) → worker < 16 → IsClient 16 (new_client id worker sac)
IsClient-new id worker sac lt = record { worker = lt; room = omega arith; rising = tt; sized = tt }

pub IsRegistry-opened : (worker : ℕ) (sac : Bool) (r s : Registry) → IsRegistry r → worker < 16 → length r.clients < 1024 → r.serial < 2 ^ 63 - 1
    → s.clients ≡ r.clients ++ new_client (r.serial + 1) worker sac ∷ [] → s.serial ≡ r.serial + 1 → IsRegistry s
IsRegistry-opened worker sac r s h lt room fresh clients serial = record {
  clients = rw (clients, serial) (record {
    room = omega (arith, length-append r.clients (new_client (r.serial + 1) worker sac ∷ []));
    serials = SerialsRise-push 0 r.clients r.serial (new_client (r.serial + 1) worker sac) h.clients.serials refl;
    worn = omega arith;
    each = all_push (IsClient 16) (new_client (r.serial + 1) worker sac) r.clients h.clients.each (IsClient-new (r.serial + 1) worker sac lt);
  });
  low = rw clients (all_push HoldsLow (new_client (r.serial + 1) worker sac) r.clients h.low tt);
}

-- the serials are below the next
pub accounts_below : (es : List (ℕ × Account)) (last : ℕ) → AllByRecursion (λ (c : Client). c.id ≤ last) (clients_at es) → AllByRecursion (λ (e : ℕ × Account). e.0 < last + 1) es
accounts_below [] last h = tt
accounts_below (e ∷ es) last h = (omega (arith, h.0), accounts_below es last h.1)
