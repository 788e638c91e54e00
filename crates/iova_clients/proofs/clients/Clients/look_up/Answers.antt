use Rattle.std.proofs.Common.{◌≡◌, ◌≢◌, ◌==◌, ℕ, true, false, Option, Some, None, option_map, option_and_then, refl, sym, ◌∙◌, arith}
use Rattle.std.proofs.lemmas.Bool.Decides.{nat_tests}
use Rattle.iova_model.specs.Clients.{Client, if_owned}
use Rattle.iova_clients.specs.Registry.{flags_of}
use Rattle.iova_clients.proofs.Changed.{client_some, client_none, set_value_same, found_mut, none_mut}
use Rattle.iova_clients.proofs.clients.Clients.look_up.Goals as goal

none_of : (w : ℕ) (o : Option Client) → o ≡ None → None ≡ option_map flags_of (option_and_then (if_owned w) o)
none_of w o is = rw is refl

another : (w : ℕ) (c : Client) (o : Option Client) → o ≡ Some c → c.worker ≢ w → None ≡ option_map flags_of (option_and_then (if_owned w) o)
another w c o is ne = let test : (c.worker == w) ≡ false = grind (arith, nat_tests) in rw (is, test) refl

own : (w : ℕ) (c : Client) (o : Option Client) → o ≡ Some c → c.worker ≡ w → Some (flags_of c) ≡ option_map flags_of (option_and_then (if_owned w) o)
own w c o is same = let test : (c.worker == w) ≡ true = grind (arith, nat_tests) in rw (is, test) refl

pub returns-in_err-ledger-clause-is : goal.returns-in_err-ledger-clause-is
returns-in_err-ledger-clause-is c =
    let none = client_none c.args.id c.self.inside.ledgers (none_mut c.get_mut.result _ c.get_mut.ensures.value c.in_err-ledger.was) in
    rw (c.from_residual.ensures, ← c.self.view_is) (none_of c.args.worker _ none)

pub invariant_of-self-then-worker : goal.invariant_of-self-then-worker
invariant_of-self-then-worker c =
    let found = found_mut c.get_mut.result c.in_ok-ledger.ledger _ c.get_mut.ensures.value c.in_ok-ledger.was in
    rw (set_value_same c.args.id c.in_ok-ledger.ledger.now c.self.inside.ledgers found) c.self.invariant

pub returns-then-worker-clause-is : goal.returns-then-worker-clause-is
returns-then-worker-clause-is c =
    let found = found_mut c.get_mut.result c.in_ok-ledger.ledger _ c.get_mut.ensures.value c.in_ok-ledger.was in
    rw (← c.self.view_is) (another c.args.worker _ _ (client_some c.args.id c.self.inside.ledgers c.in_ok-ledger.ledger.now found) (λ e. c.if-worker.true (c.worker.ensures ∙ e)))

pub returns-then-worker-clause-unchanged : goal.returns-then-worker-clause-unchanged
returns-then-worker-clause-unchanged c =
    let found = found_mut c.get_mut.result c.in_ok-ledger.ledger _ c.get_mut.ensures.value c.in_ok-ledger.was in
    rw (set_value_same c.args.id c.in_ok-ledger.ledger.now c.self.inside.ledgers found) c.self.view_is

pub invariant_of-self-2 : goal.invariant_of-self-2
invariant_of-self-2 c =
    let found = found_mut c.get_mut.result c.in_ok-ledger.ledger _ c.get_mut.ensures.value c.in_ok-ledger.was in
    rw (set_value_same c.args.id c.in_ok-ledger.ledger.now c.self.inside.ledgers found) c.self.invariant

pub returns-clause-is : goal.returns-clause-is
returns-clause-is c =
    let found = found_mut c.get_mut.result c.in_ok-ledger.ledger _ c.get_mut.ensures.value c.in_ok-ledger.was in
    rw (c.is_sac.ensures, c.is_closing.ensures, ← c.self.view_is) (own c.args.worker _ _ (client_some c.args.id c.self.inside.ledgers c.in_ok-ledger.ledger.now found) (sym c.worker.ensures ∙ c.if-worker.false))

pub returns-clause-unchanged : goal.returns-clause-unchanged
returns-clause-unchanged c =
    let found = found_mut c.get_mut.result c.in_ok-ledger.ledger _ c.get_mut.ensures.value c.in_ok-ledger.was in
    rw (set_value_same c.args.id c.in_ok-ledger.ledger.now c.self.inside.ledgers found) c.self.view_is
