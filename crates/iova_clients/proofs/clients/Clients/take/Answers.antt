use Rattle.std.proofs.Common.{◌≡◌, ◌+◌, Some, None, ok_or, find, refl, sym, ap, ◌∙◌, arith}
use Rattle.std.specs.Result.{result_ok}
use Rattle.std.specs.Map.{set_value}
use Rattle.std.proofs.lemmas.Result.{err_from_is_err_and}
use Rattle.iova_range.specs.declared.refusal.Refusal.TheVariants.{NoClient, NotHeld}
use Rattle.iova_model.specs.Clients.{without_holding, begins_at, remove_at}
use Rattle.iova_clients.specs.Registry.{is_serial, held_at, IsBelowTop}
use Rattle.iova_clients.specs.Accounts.{Account, client_at, clients_at}
use Rattle.iova_clients.specs.Sums.{with_share, without_one}
use Rattle.iova_clients.proofs.Changed.{client_some, client_none, changed-at, set_value_same, spare_at, spare_same, lookup-set_same, lookup-set_other, found_mut, refused_at, none_mut}
use Rattle.iova_clients.proofs.Kept.{client_is, client_is_low, IsRegistry-changed, IsClient-taken, all_removed}
use Rattle.iova_clients.proofs.BooksLemmas.{sums_taken, share_includes}
use Rattle.iova_clients.proofs.clients.Clients.take.Goals as goal

pub returns-in_err-ledger-clause-value : goal.returns-in_err-ledger-clause-value
returns-in_err-ledger-clause-value c =
    let p = err_from_is_err_and c.from_residual.result c.from_residual.ensures.1 in
    let at = refused_at c.get_mut.result c.ok_or.result c.in_err-ledger.field-0.0 NoClient c.ok_or.ensures.value c.in_err-ledger.was in
    let none = client_none c.args.id c.self.inside.ledgers (none_mut c.get_mut.result _ c.get_mut.ensures.value at.1) in
    rw (p.1, p.2, at.0, ← c.self.view_is) (sym (ap (λ o. held_at c.args.lo o) none))

pub invariant_of-self-in_err-range : goal.invariant_of-self-in_err-range
invariant_of-self-in_err-range c =
    let es = c.self.inside.ledgers in
    let a = c.in_ok-ledger.ledger.now in
    let found = found_mut c.get_mut.result c.in_ok-ledger.ledger _ c.get_mut.ensures.value (c.ok_or.ensures.ok_part ∙ ap (λ r. result_ok r) c.in_ok-ledger.was) in
    let at = refused_at c.take.result c.ok_or-2.result c.in_err-range.field-0.0 NotHeld c.ok_or-2.ensures.value c.in_err-range.was in
    let kept : c.take.new.self ≡ a = rw at.1 at c.take.ensures.none in
    rw (kept, set_value_same c.args.id a es found) c.self.invariant

pub returns-in_err-range-clause-value : goal.returns-in_err-range-clause-value
returns-in_err-range-clause-value c =
    let es = c.self.inside.ledgers in
    let a = c.in_ok-ledger.ledger.now in
    let found = found_mut c.get_mut.result c.in_ok-ledger.ledger _ c.get_mut.ensures.value (c.ok_or.ensures.ok_part ∙ ap (λ r. result_ok r) c.in_ok-ledger.was) in
    let p = err_from_is_err_and c.from_residual-in_err-range.result c.from_residual-in_err-range.ensures.1 in
    let at = refused_at c.take.result c.ok_or-2.result c.in_err-range.field-0.0 NotHeld c.ok_or-2.ensures.value c.in_err-range.was in
    let held : find (begins_at c.args.lo) a.holdings ≡ None = sym c.take.ensures.value ∙ at.1 in
    rw (p.1, p.2, at.0, ← c.self.view_is) (sym (ap (λ o. held_at c.args.lo o) (client_some c.args.id es a found) ∙ ap (λ o. ok_or o NotHeld) held))

pub returns-in_err-range-clause-others : goal.returns-in_err-range-clause-others
returns-in_err-range-clause-others c =
    let es = c.self.inside.ledgers in
    rw (← c.self.view_is) (λ other ne. spare_same other es (set_value (is_serial c.args.id) es c.take.new.self) (lookup-set_other c.args.id other c.take.new.self es ne))

pub returns-in_err-range-clause-unchanged : goal.returns-in_err-range-clause-unchanged
returns-in_err-range-clause-unchanged c =
    let es = c.self.inside.ledgers in
    let a = c.in_ok-ledger.ledger.now in
    let found = found_mut c.get_mut.result c.in_ok-ledger.ledger _ c.get_mut.ensures.value (c.ok_or.ensures.ok_part ∙ ap (λ r. result_ok r) c.in_ok-ledger.was) in
    let p = err_from_is_err_and c.from_residual-in_err-range.result c.from_residual-in_err-range.ensures.1 in
    let at = refused_at c.take.result c.ok_or-2.result c.in_err-range.field-0.0 NotHeld c.ok_or-2.ensures.value c.in_err-range.was in
    let kept : c.take.new.self ≡ a = rw at.1 at c.take.ensures.none in
    rw (p.1, kept, set_value_same c.args.id a es found) c.self.view_is

pub remove-requires-clause-worker : goal.remove-requires-clause-worker
remove-requires-clause-worker c =
    let es = c.self.inside.ledgers in
    let a = c.in_ok-ledger.ledger.now in
    let found = found_mut c.get_mut.result c.in_ok-ledger.ledger _ c.get_mut.ensures.value (c.ok_or.ensures.ok_part ∙ ap (λ r. result_ok r) c.in_ok-ledger.was) in
    let taken : c.take.result ≡ Some c.in_ok-range.range = c.ok_or-2.ensures.ok_part ∙ ap (λ r. result_ok r) c.in_ok-range.was in
    let now : c.take.new.self ≡ record a { holdings = remove_at c.args.lo a.holdings; spare = a.spare + 1 } = rw taken at c.take.ensures.some in
    rw (c.worker-worker.ensures, now) (client_is c.args.id es a _ refl c.self.invariant.registry found).worker

pub remove-requires-clause-held : goal.remove-requires-clause-held
remove-requires-clause-held c =
    let es = c.self.inside.ledgers in
    let a = c.in_ok-ledger.ledger.now in
    let found = found_mut c.get_mut.result c.in_ok-ledger.ledger _ c.get_mut.ensures.value (c.ok_or.ensures.ok_part ∙ ap (λ r. result_ok r) c.in_ok-ledger.was) in
    let taken : c.take.result ≡ Some c.in_ok-range.range = c.ok_or-2.ensures.ok_part ∙ ap (λ r. result_ok r) c.in_ok-range.was in
    let held : find (begins_at c.args.lo) a.holdings ≡ Some c.in_ok-range.range = sym c.take.ensures.value ∙ taken in
    let now : c.take.new.self ≡ record a { holdings = remove_at c.args.lo a.holdings; spare = a.spare + 1 } = rw taken at c.take.ensures.some in
    let worker = (client_is c.args.id es a _ refl c.self.invariant.registry found).worker in
    rw (c.worker-worker.ensures, now)
    (share_includes c.args.id c.args.lo c.in_ok-range.range (client_at (c.args.id, a)) (clients_at es) c.self.inside.sums (client_some c.args.id es a found) held worker c.self.invariant.sums)

pub invariant_of-self-2 : goal.invariant_of-self-2
invariant_of-self-2 c =
    let es = c.self.inside.ledgers in
    let id = c.args.id in
    let lo = c.args.lo in
    let r = c.in_ok-range.range in
    let a = c.in_ok-ledger.ledger.now in
    let found = found_mut c.get_mut.result c.in_ok-ledger.ledger _ c.get_mut.ensures.value (c.ok_or.ensures.ok_part ∙ ap (λ r. result_ok r) c.in_ok-ledger.was) in
    let taken : c.take.result ≡ Some r = c.ok_or-2.ensures.ok_part ∙ ap (λ r. result_ok r) c.in_ok-range.was in
    let held : find (begins_at lo) a.holdings ≡ Some r = sym c.take.ensures.value ∙ taken in
    let now : c.take.new.self ≡ record a { holdings = remove_at lo a.holdings; spare = a.spare + 1 } = rw taken at c.take.ensures.some in
    let client = client_some id es a found in
    let is = client_is id es a _ refl c.self.invariant.registry found in
    let low = client_is_low id es a _ refl c.self.invariant.registry found in
    let clients = changed-at id (without_holding lo) a c.take.new.self es found (ap (λ x. client_at (id, x)) (sym now)) in
    let shares : c.remove.new.self.shares ≡ with_share a.worker (without_one r) c.self.inside.sums.shares =
    rw (c.worker-worker.ensures, now) at c.remove.ensures in
    record {
      registry = IsRegistry-changed id (without_holding lo) (client_at (id, a)) _ _ c.self.invariant.registry client refl
          (IsClient-taken lo (client_at (id, a)) is) (all_removed IsBelowTop lo a.holdings low) clients refl;
      sums = rw clients (sums_taken id lo r (client_at (id, a)) (clients_at es) c.self.inside.sums c.remove.new.self client is.worker held shares c.self.invariant.sums);
    }

pub returns-clause-value : goal.returns-clause-value
returns-clause-value c =
    let es = c.self.inside.ledgers in
    let a = c.in_ok-ledger.ledger.now in
    let found = found_mut c.get_mut.result c.in_ok-ledger.ledger _ c.get_mut.ensures.value (c.ok_or.ensures.ok_part ∙ ap (λ r. result_ok r) c.in_ok-ledger.was) in
    let taken : c.take.result ≡ Some c.in_ok-range.range = c.ok_or-2.ensures.ok_part ∙ ap (λ r. result_ok r) c.in_ok-range.was in
    let held : find (begins_at c.args.lo) a.holdings ≡ Some c.in_ok-range.range = sym c.take.ensures.value ∙ taken in
    rw (← c.self.view_is) (sym (ap (λ o. held_at c.args.lo o) (client_some c.args.id es a found) ∙ ap (λ o. ok_or o NotHeld) held))

pub returns-clause-clients : goal.returns-clause-clients
returns-clause-clients c =
    let es = c.self.inside.ledgers in
    let id = c.args.id in
    let a = c.in_ok-ledger.ledger.now in
    let found = found_mut c.get_mut.result c.in_ok-ledger.ledger _ c.get_mut.ensures.value (c.ok_or.ensures.ok_part ∙ ap (λ r. result_ok r) c.in_ok-ledger.was) in
    let taken : c.take.result ≡ Some c.in_ok-range.range = c.ok_or-2.ensures.ok_part ∙ ap (λ r. result_ok r) c.in_ok-range.was in
    let now : c.take.new.self ≡ record a { holdings = remove_at c.args.lo a.holdings; spare = a.spare + 1 } = rw taken at c.take.ensures.some in
    rw (← c.self.view_is) (changed-at id (without_holding c.args.lo) a c.take.new.self es found (ap (λ x. client_at (id, x)) (sym now)))

pub returns-clause-spare : goal.returns-clause-spare
returns-clause-spare c =
    let es = c.self.inside.ledgers in
    let id = c.args.id in
    let a = c.in_ok-ledger.ledger.now in
    let w = c.take.new.self in
    let found = found_mut c.get_mut.result c.in_ok-ledger.ledger _ c.get_mut.ensures.value (c.ok_or.ensures.ok_part ∙ ap (λ r. result_ok r) c.in_ok-ledger.was) in
    let taken : c.take.result ≡ Some c.in_ok-range.range = c.ok_or-2.ensures.ok_part ∙ ap (λ r. result_ok r) c.in_ok-range.was in
    let now : w ≡ record a { holdings = remove_at c.args.lo a.holdings; spare = a.spare + 1 } = rw taken at c.take.ensures.some in
    let old = spare_at id es a found in
    let new = spare_at id (set_value (is_serial id) es w) w (lookup-set_same id a w es found) in
    let more : w.spare ≡ a.spare + 1 = ap (λ (x : Account). x.spare) now in
    rw (← c.self.view_is) (omega arith)

pub returns-clause-others : goal.returns-clause-others
returns-clause-others c =
    let es = c.self.inside.ledgers in
    rw (← c.self.view_is) (λ other ne. spare_same other es (set_value (is_serial c.args.id) es c.take.new.self) (lookup-set_other c.args.id other c.take.new.self es ne))
