use Rattle.std.proofs.Common.{◌∙◌, ap, sym, Some, None}
use Rattle.slab.specs.Slab.{get as at_key}
use Rattle.iova_clients.specs.Registry.{is_serial}
use Rattle.iova_clients.specs.Accounts.{listed_accounts}
use Rattle.iova_clients.proofs.Listed.{get_listed, lookup_at, remove_entry_at, listed_removed, keyed_removed, none_removed, remembered_removed}
use Rattle.iova_clients.proofs.ledgers.Ledgers.remove.Goals as goal

pub invariant_of-self-2 : goal.invariant_of-self-2
invariant_of-self-2 c =
    let i = c.self.inside in
    record {
      keyed = rw (c.remove.ensures.entries, remove_entry_at)
          (keyed_removed (at_key i.slab) (at_key c.try_remove.new.self) (is_serial c.args.id) c.in_ok-key.key i.keys.entries
          c.self.invariant.keyed (sym (lookup_at c.args.id i.keys.entries) ∙ sym c.in_ok-key.ensures.value) c.try_remove.ensures.updates.others);
      remembered = remembered_removed (at_key i.slab) (at_key c.try_remove.new.self) c.args.id
          c.in_ok-key.key i.keys.entries c.remove.new.self.entries i.last c.self.invariant.remembered
          (sym c.in_ok-key.ensures.value) c.remove.ensures.updates.0
          c.try_remove.ensures.updates.changed c.try_remove.ensures.updates.others;
    }

pub returns-clause-value : goal.returns-clause-value
returns-clause-value c =
    let i = c.self.inside in
    rw (← c.self.view_is) (c.try_remove.ensures.value ∙ sym (get_listed (at_key i.slab) c.args.id i.keys.entries (Some c.in_ok-key.key) c.self.invariant.keyed (sym c.in_ok-key.ensures.value)))

pub returns-clause-left : goal.returns-clause-left
returns-clause-left c =
    let i = c.self.inside in
    let left =
    ap (listed_accounts (at_key c.try_remove.new.self)) (c.remove.ensures.entries ∙ remove_entry_at c.args.id i.keys.entries)
    ∙ listed_removed (at_key i.slab) (at_key c.try_remove.new.self) (is_serial c.args.id) c.in_ok-key.key i.keys.entries
    c.self.invariant.keyed (sym (lookup_at c.args.id i.keys.entries) ∙ sym c.in_ok-key.ensures.value) c.try_remove.ensures.updates.others in
    rw (← c.self.view_is) left

pub returns-in_err-key-clause-value : goal.returns-in_err-key-clause-value
returns-in_err-key-clause-value c =
    let i = c.self.inside in
    rw (c.from_residual.ensures, ← c.self.view_is) (sym (get_listed (at_key i.slab) c.args.id i.keys.entries None c.self.invariant.keyed (sym c.in_err-key.ensures.value)))

pub returns-in_err-key-clause-left : goal.returns-in_err-key-clause-left
returns-in_err-key-clause-left c =
    let i = c.self.inside in
    let none = get_listed (at_key i.slab) c.args.id i.keys.entries None c.self.invariant.keyed (sym c.in_err-key.ensures.value) in
    let left =
    ap (listed_accounts (at_key i.slab)) c.in_err-key.ensures.unchanged ∙ sym (none_removed (is_serial c.args.id) (listed_accounts (at_key i.slab) i.keys.entries) none) in
    rw (← c.self.view_is) left
