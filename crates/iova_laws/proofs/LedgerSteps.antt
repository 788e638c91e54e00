-- How a step moves the totals and the shares.
use Rattle.std.proofs.Common.{ℕ, ◌≡◌, ◌==◌, ◌⊎◌, inl, inr, Bool, true, false, List, [], ◌∷◌, ◌++◌, Option, Some, None, refl, sym, ap, ◌∙◌, subst, arith, append_assoc, append-nil}
use Rattle.std.specs.Prelude.{find, filter}
use Rattle.std.proofs.lemmas.Bool.{cases_eq}
use Rattle.std.proofs.lemmas.Bool.Decides.{nat_tests}
use Rattle.iova_range.specs.Frames.{Frames}
use Rattle.iova_model.specs.declared.step.Step.{Step}
use Rattle.iova_model.specs.declared.step.Reply.{Reply}
use Rattle.iova_model.specs.Clients.{Client, client_with, change_client, without_client, begins_at, remove_at, with_holding, without_holding, with_mark, totals_of, all_holdings, totals, share_of}
use Rattle.iova_model.specs.State.{State}
use Rattle.iova_model.specs.Next.{next}
use Rattle.iova_model.specs.Effects.{MovesTotals, MovesShare, worker_of}
use Rattle.iova_model.specs.Laws.{StepsMoveLedgers}
use Rattle.iova_laws.proofs.LedgerClients.{stands}
use Rattle.iova_laws.proofs.ValidFound.{held_at, first_held, changed_found}
use Rattle.iova_laws.proofs.LedgerTotals.{HasMore, totals_more, more-insert, more-remove, more_alike, more_within}
use Rattle.iova_laws.proofs.Outcomes.{Outcome, opens, gives, unmaps, closes, queues_lowest, only_marks, forgets, outcome}

-- Holdings that are found.

-- it leaves by where it begins
found_removed : (lo : ℕ) (r : Frames) (rs : List Frames) → find (begins_at lo) rs ≡ Some r → HasMore r (remove_at r.lo rs) rs
found_removed lo r rs is = more-remove r.lo r rs (held_at lo r rs is)

-- and so does the lowest
lowest_removed : (r : Frames) (rs holdings : List Frames) → holdings ≡ r ∷ rs → HasMore r (remove_at r.lo holdings) holdings
lowest_removed r rs holdings lowest = more-remove r.lo r holdings (ap (find (begins_at r.lo)) lowest ∙ first_held r rs)

-- A ledger of the workers that pass.
module _ (keep : ℕ → Bool) where
  -- the holdings of their clients
  abbrev held : List Client → List Frames
  held clients = all_holdings (filter (λ c. keep c.worker) clients)

  -- over two lists of clients
  held-append : (cs ds : List Client) → held (cs ++ ds) ≡ held cs ++ held ds
  held-append [] ds = refl
  held-append (c ∷ cs) ds = grind (arith, nat_tests, append_assoc, held-append cs ds)

  -- a client of one of them, among others
  held_between : (before later : List Client) (c : Client) → keep c.worker ≡ true → held (before ++ c ∷ later) ≡ held before ++ (c.holdings ++ held later)
  held_between before later c mine = grind (arith, nat_tests, held-append before (c ∷ later))

  -- a new client has no holdings
  held_opened : (cs : List Client) (c : Client) → c.holdings ≡ [] → held (cs ++ c ∷ []) ≡ held cs
  held_opened cs c none = grind (arith, nat_tests, append-nil (held cs), held-append cs (c ∷ []))

  -- nor has one that is forgotten
  held-forgotten : (id : ℕ) (c : Client) (clients : List Client) → client_with id clients ≡ Some c → c.holdings ≡ [] → held (without_client id clients) ≡ held clients
  held-forgotten id c [] is none = absurd cc
  held-forgotten id c (x ∷ cs) is none = grind (arith, nat_tests, held-forgotten id c cs)

  -- a change leaves the holdings
  held_same : (id : ℕ) (c : Client) (change : Client → Client) (clients : List Client) → client_with id clients ≡ Some c → (change c).worker ≡ c.worker → (change c).holdings ≡ c.holdings
      → held (change_client id change clients) ≡ held clients
  held_same id c change [] is same_worker same = absurd cc
  held_same id c change (x ∷ cs) is same_worker same = grind (arith, nat_tests, held_same id c change cs)

  -- or the client is of another worker
  held_other : (id : ℕ) (c : Client) (change : Client → Client) (clients : List Client) → client_with id clients ≡ Some c → (change c).worker ≡ c.worker → keep c.worker ≡ false
      → held (change_client id change clients) ≡ held clients
  held_other id c change [] is same_worker other = absurd cc
  held_other id c change (x ∷ cs) is same_worker other = grind (arith, nat_tests, held_other id c change cs)

  -- A client of one of them, and another in its place.
  module _ (id : ℕ) (c : Client) (clients : List Client) (is : client_with id clients ≡ Some c) (change : Client → Client) (same_worker : (change c).worker ≡ c.worker) (mine : keep c.worker ≡ true) where
    -- what they hold before the change, and after it
    abbrev around : List Frames → List Frames
    around rs = let at = stands id c clients is in held at.before ++ (rs ++ held at.later)

    -- before the change
    held_old : held clients ≡ around c.holdings
    held_old = let at = stands id c clients is in ap held at.is ∙ held_between at.before at.later c mine

    -- and after it
    held_new : held (change_client id change clients) ≡ around (change c).holdings
    held_new = let at = stands id c clients is in ap held (at.changes change) ∙ held_between at.before at.later (change c) (ap keep same_worker ∙ mine)

    -- one range more in its holdings
    held_more : (r : Frames) → HasMore r c.holdings (change c).holdings → HasMore r (held clients) (held (change_client id change clients))
    held_more r h = let at = stands id c clients is in more_alike r _ _ _ _ held_old held_new (more_within r (held at.before) c.holdings (change c).holdings (held at.later) h)

    -- one less
    held_less : (r : Frames) → HasMore r (change c).holdings c.holdings → HasMore r (held (change_client id change clients)) (held clients)
    held_less r h = let at = stands id c clients is in more_alike r _ _ _ _ held_new held_old (more_within r (held at.before) (change c).holdings c.holdings (held at.later) h)

  -- a step moves their totals where it names one of them
  totals_move : (s : State) {st : Step} {r : Reply} {t : State} → Outcome s st r t → ((w : ℕ) → worker_of st ≡ Some w → keep w ≡ true)
      → MovesTotals r (totals_of (held s.clients)) (totals_of (held t.clients))
  totals_move s (opens w sac) named = ap totals_of (held_opened s.clients _ refl)
  totals_move s (gives w id frames limit c r caches own still_open) named =
      totals_more r _ _ (held_more id c s.clients own.is (with_holding r) refl (ap keep own.worker ∙ named w refl) r (more-insert r c.holdings))
  totals_move s (unmaps w id lo c r known own still_open found) named =
      totals_more r _ _ (held_less id c s.clients own.is (without_holding r.lo) refl (ap keep own.worker ∙ named w refl) r (found_removed lo r c.holdings found))
  totals_move s (closes w id c own) named = ap totals_of (held_same id c with_mark s.clients own.is refl refl)
  totals_move s (queues_lowest w id c r rs known own lowest) named =
      let again = changed_found id with_mark c s.clients own.is refl in
      let less = held_less id (with_mark c) (change_client id with_mark s.clients) again (without_holding r.lo) refl (ap keep own.worker ∙ named w refl) r (lowest_removed r rs c.holdings lowest) in
      sym (ap totals_of (held_same id c with_mark s.clients own.is refl refl)) ∙ totals_more r _ _ less
  totals_move s (only_marks w id c own) named = ap totals_of (held_same id c with_mark s.clients own.is refl refl)
  totals_move s (forgets w id c own none) named = ap totals_of (held-forgotten id c s.clients own.is none)
  totals_move s o named = refl

  -- and else leaves them
  totals_stay : (s : State) {st : Step} {r : Reply} {t : State} → Outcome s st r t → ((w : ℕ) → worker_of st ≡ Some w → keep w ≡ false)
      → totals_of (held t.clients) ≡ totals_of (held s.clients)
  totals_stay s (opens w sac) named = ap totals_of (held_opened s.clients _ refl)
  totals_stay s (gives w id frames limit c r caches own still_open) named = ap totals_of (held_other id c (with_holding r) s.clients own.is refl (ap keep own.worker ∙ named w refl))
  totals_stay s (unmaps w id lo c r known own still_open found) named = ap totals_of (held_other id c (without_holding r.lo) s.clients own.is refl (ap keep own.worker ∙ named w refl))
  totals_stay s (closes w id c own) named = ap totals_of (held_same id c with_mark s.clients own.is refl refl)
  totals_stay s (queues_lowest w id c r rs known own lowest) named =
      let again = changed_found id with_mark c s.clients own.is refl in
      let others = held_other id (with_mark c) (without_holding r.lo) (change_client id with_mark s.clients) again refl (ap keep own.worker ∙ named w refl) in
      ap totals_of (others ∙ held_same id c with_mark s.clients own.is refl refl)
  totals_stay s (only_marks w id c own) named = ap totals_of (held_same id c with_mark s.clients own.is refl refl)
  totals_stay s (forgets w id c own none) named = ap totals_of (held-forgotten id c s.clients own.is none)
  totals_stay s o named = refl

-- the ledger of all workers is that of the totals
held_by_all : (clients : List Client) → held (λ w. true) clients ≡ all_holdings clients
held_by_all [] = refl
held_by_all (c ∷ cs) = ap (λ l. c.holdings ++ l) (held_by_all cs)

-- the share of a worker moves where the step names that worker
share_moves : (s : State) {st : Step} {r : Reply} {t : State} → Outcome s st r t → (worker : ℕ) (w : Option ℕ) → worker_of st ≡ w
    → MovesShare w r worker (share_of worker s.clients) (share_of worker t.clients)
share_moves s o worker None e = totals_stay (λ v. v == worker) s o (λ w named. absurd cc)
share_moves s {st = st} {r = r} {t = t} o worker (Some w) e = split (cases_eq worker w)
  where
    split : (worker ≡ w) ⊎ (worker ≡ w → ⊥) → MovesShare (Some w) r worker (share_of worker s.clients) (share_of worker t.clients)
    split (inl same) = inl (same, totals_move (λ v. v == worker) s o (λ v named. let one : v ≡ w = cc in grind (arith, nat_tests)))
    split (inr other) = inr (other, totals_stay (λ v. v == worker) s o (λ v named. let one : v ≡ w = cc in grind (arith, nat_tests)))

-- a step moves the totals and the shares as its reply says
pub steps_move_ledgers : StepsMoveLedgers
steps_move_ledgers = λ s st m valid.
    let o = outcome s st m in
    let n = next s st m in
    let moved = totals_move (λ w. true) s o (λ w named. refl) in
    let from_old = subst (λ old. MovesTotals n.reply (totals_of old) (totals_of (held (λ w. true) n.state.clients))) (held_by_all s.clients) moved in
    record {
      totals = subst (λ new. MovesTotals n.reply (totals s.clients) (totals_of new)) (held_by_all n.state.clients) from_old;
      share = λ worker. share_moves s o worker (worker_of st) refl;
    }
