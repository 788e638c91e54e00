use Rattle.std.proofs.Common.{Ok, length, refl, sym, ap, ◌∙◌}
use Rattle.std.specs.Result.{result_ok}
use Rattle.std.proofs.lemmas.Result.{err_from_is_err_and}
use Rattle.iova_range.specs.declared.refusal.Refusal.TheVariants.{NoClient}
use Rattle.iova_model.specs.Clients.{with_mark}
use Rattle.iova_clients.specs.Registry.{count_held}
use Rattle.iova_clients.specs.Accounts.{Account, client_at, clients_at}
use Rattle.iova_clients.proofs.Changed.{client_some, client_none, changed-at, spares-set, found_mut, refused_at, none_mut}
use Rattle.iova_clients.proofs.Kept.{client_is, client_is_low, IsRegistry-changed}
use Rattle.iova_clients.proofs.BooksLemmas.{sums_kept}
use Rattle.iova_clients.proofs.clients.Clients.mark_closing.Goals as goal

pub returns-in_err-ledger-clause-value : goal.returns-in_err-ledger-clause-value
returns-in_err-ledger-clause-value c =
    let p = err_from_is_err_and c.from_residual.result c.from_residual.ensures.1 in
    let at = refused_at c.get_mut.result c.ok_or.result c.in_err-ledger.field-0.0 NoClient c.ok_or.ensures.value c.in_err-ledger.was in
    let none = client_none c.args.id c.self.inside.ledgers (none_mut c.get_mut.result _ c.get_mut.ensures.value at.1) in
    rw (p.1, p.2, at.0, ← c.self.view_is) (sym (ap (λ o. count_held o) none))

pub invariant_of-self-2 : goal.invariant_of-self-2
invariant_of-self-2 c =
    let es = c.self.inside.ledgers in
    let id = c.args.id in
    let a = c.in_ok-ledger.ledger.now in
    let found = found_mut c.get_mut.result c.in_ok-ledger.ledger _ c.get_mut.ensures.value (c.ok_or.ensures.ok_part ∙ ap (λ r. result_ok r) c.in_ok-ledger.was) in
    let client = client_some id es a found in
    let is = client_is id es a _ refl c.self.invariant.registry found in
    let low = client_is_low id es a _ refl c.self.invariant.registry found in
    let clients = changed-at id with_mark a c.mark_closing.new.self es found (ap (λ x. client_at (id, x)) (sym c.mark_closing.ensures)) in
    record {
      registry = IsRegistry-changed id with_mark (client_at (id, a)) _ _ c.self.invariant.registry client refl
          (record { worker = is.worker; room = is.room; rising = is.rising; sized = is.sized }) low clients refl;
      sums = rw clients (sums_kept id with_mark (client_at (id, a)) (clients_at es) c.self.inside.sums client refl refl c.self.invariant.sums);
    }

pub returns-clause-value : goal.returns-clause-value
returns-clause-value c =
    let es = c.self.inside.ledgers in
    let a = c.in_ok-ledger.ledger.now in
    let found = found_mut c.get_mut.result c.in_ok-ledger.ledger _ c.get_mut.ensures.value (c.ok_or.ensures.ok_part ∙ ap (λ r. result_ok r) c.in_ok-ledger.was) in
    let client = client_some c.args.id es a found in
    rw (← c.self.view_is) (ap (λ n. Ok n) (c.count.ensures ∙ ap (λ (x : Account). length x.holdings) c.mark_closing.ensures) ∙ sym (ap (λ o. count_held o) client))

pub returns-clause-clients : goal.returns-clause-clients
returns-clause-clients c =
    let es = c.self.inside.ledgers in
    let id = c.args.id in
    let a = c.in_ok-ledger.ledger.now in
    let found = found_mut c.get_mut.result c.in_ok-ledger.ledger _ c.get_mut.ensures.value (c.ok_or.ensures.ok_part ∙ ap (λ r. result_ok r) c.in_ok-ledger.was) in
    rw (← c.self.view_is) (changed-at id with_mark a c.mark_closing.new.self es found (ap (λ x. client_at (id, x)) (sym c.mark_closing.ensures)))

pub returns-clause-spares : goal.returns-clause-spares
returns-clause-spares c =
    let es = c.self.inside.ledgers in
    let id = c.args.id in
    let a = c.in_ok-ledger.ledger.now in
    let found = found_mut c.get_mut.result c.in_ok-ledger.ledger _ c.get_mut.ensures.value (c.ok_or.ensures.ok_part ∙ ap (λ r. result_ok r) c.in_ok-ledger.was) in
    rw (← c.self.view_is) (spares-set id a c.mark_closing.new.self es found (ap (λ (x : Account). x.spare) c.mark_closing.ensures))
