use Rattle.std.proofs.Common.{◌≡◌, ◌≢◌, ◌==◌, ℕ, true, false, Option, Some, None, find, option_and_then, option_copied, refl, sym, ap, ◌∙◌, arith}
use Rattle.std.proofs.lemmas.Bool.Decides.{nat_tests}
use Rattle.iova_model.specs.Clients.{Client, begins_at, if_owned}
use Rattle.iova_model.specs.Effects.{unmapped_of}
use Rattle.iova_clients.proofs.Changed.{client_some, client_none}
use Rattle.iova_clients.proofs.clients.Clients.to_unmap.Goals as goal

none_of : (w lo : ℕ) (o : Option Client) → o ≡ None → None ≡ option_and_then (unmapped_of lo) (option_and_then (if_owned w) o)
none_of w lo o is = rw is refl

another : (w lo : ℕ) (c : Client) (o : Option Client) → o ≡ Some c → c.worker ≢ w → None ≡ option_and_then (unmapped_of lo) (option_and_then (if_owned w) o)
another w lo c o is ne = let test : (c.worker == w) ≡ false = grind (arith, nat_tests) in rw (is, test) refl

shut : (w lo : ℕ) (c : Client) (o : Option Client) → o ≡ Some c → c.worker ≡ w → c.closing ≡ true → None ≡ option_and_then (unmapped_of lo) (option_and_then (if_owned w) o)
shut w lo c o is same closing = let test : (c.worker == w) ≡ true = grind (arith, nat_tests) in rw (is, test, closing) refl

own : (w lo : ℕ) (c : Client) (o : Option Client) → o ≡ Some c → c.worker ≡ w → c.closing ≡ false
    → find (begins_at lo) c.holdings ≡ option_and_then (unmapped_of lo) (option_and_then (if_owned w) o)
own w lo c o is same live = let test : (c.worker == w) ≡ true = grind (arith, nat_tests) in rw (is, test, live) refl

pub returns-in_err-ledger : goal.returns-in_err-ledger
returns-in_err-ledger c =
    let none = client_none c.args.id c.self.inside.ledgers (sym c.get.ensures ∙ ap (λ o. option_copied o) c.in_err-ledger.was) in
    rw (c.from_residual.ensures, ← c.self.view_is) (none_of c.args.worker c.args.lo _ none)

pub returns-then-worker : goal.returns-then-worker
returns-then-worker c =
    let some = client_some c.args.id c.self.inside.ledgers c.in_ok-ledger.ledger.now (sym c.get.ensures ∙ ap (λ o. option_copied o) c.in_ok-ledger.was) in
    rw (← c.self.view_is) (another c.args.worker c.args.lo _ _ some (λ e. c.if-worker.true (sym (c.worker.ensures ∙ e))))

pub returns-then-is_closing : goal.returns-then-is_closing
returns-then-is_closing c =
    let some = client_some c.args.id c.self.inside.ledgers c.in_ok-ledger.ledger.now (sym c.get.ensures ∙ ap (λ o. option_copied o) c.in_ok-ledger.was) in
    rw (← c.self.view_is) (shut c.args.worker c.args.lo _ _ some (sym c.worker.ensures ∙ sym c.if-worker.false) (sym c.is_closing.ensures ∙ c.if-is_closing.true))

pub holding-requires : goal.holding-requires
holding-requires c = sym c.is_closing.ensures ∙ c.if-is_closing.false

pub returns : goal.returns
returns c =
    let some = client_some c.args.id c.self.inside.ledgers c.in_ok-ledger.ledger.now (sym c.get.ensures ∙ ap (λ o. option_copied o) c.in_ok-ledger.was) in
    rw (← c.self.view_is) (c.holding.ensures ∙ own c.args.worker c.args.lo _ _ some (sym c.worker.ensures ∙ sym c.if-worker.false) (sym c.is_closing.ensures ∙ c.if-is_closing.false))
