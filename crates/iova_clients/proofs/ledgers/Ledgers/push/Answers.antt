use Rattle.std.proofs.Common.{◌≡◌, ◌∙◌, ◌<◌, [], ◌∷◌, ◌++◌, ap, sym}
use Rattle.std.specs.List.{AllByRecursion}
use Rattle.std.specs.Map.{lookup}
use Rattle.slab.specs.Slab.{get as at_key}
use Rattle.iova_clients.specs.Registry.{is_serial}
use Rattle.iova_clients.specs.Accounts.{listed_accounts, AreKeyed}
use Rattle.iova_clients.proofs.Listed.{lookup_at, own_key, listed_pushed, keyed_pushed}
use Rattle.iova_clients.proofs.ledgers.Ledgers.push.Goals as goal

pub invariant_of-self : goal.invariant_of-self
invariant_of-self c = rw c.reserve.ensures.rest_kept c.self.invariant

pub invariant_of-self-in_default-insert : goal.invariant_of-self-in_default-insert
invariant_of-self-in_default-insert c =
    rw (c.in_default-insert.ensures.err, c.reserve.ensures.rest_kept) c.self.invariant

pub invariant_of-self-2 : goal.invariant_of-self-2
invariant_of-self-2 c =
    let i = c.self.inside in
    let key = c.vacant_key-key.result in
    let keyed : AreKeyed (at_key c.reserve.new.self) i.keys.entries = rw c.reserve.ensures.rest_kept c.self.invariant.keyed in
    let below : AllByRecursion (λ e. e.0 < c.args.id) (listed_accounts (at_key c.reserve.new.self) i.keys.entries) = rw (c.reserve.ensures.rest_kept, c.self.view_is) c.requires in
    let same : c.insert_reserved.result ≡ key = c.insert_reserved.ensures.key ∙ sym c.vacant_key-key.ensures.value in
    let updates = rw same at c.insert_reserved.ensures.updates in
    record {
      keyed = rw c.in-Ok-insert.ensures.entries
          (keyed_pushed (at_key c.reserve.new.self) (at_key c.insert_reserved.new.self) c.args.id key c.args.ledger i.keys.entries keyed below
          c.vacant_key-key.ensures.vacant updates.changed updates.others);
      remembered = own_key (at_key c.insert_reserved.new.self) key
          (lookup (is_serial c.args.id) c.insert.new.self.entries)
          (sym (lookup_at c.args.id c.insert.new.self.entries) ∙ c.in-Ok-insert.ensures.updates.1);
    }

pub returns-clause-ok : goal.returns-clause-ok
returns-clause-ok c =
    let i = c.self.inside in
    let key = c.vacant_key-key.result in
    let keyed : AreKeyed (at_key c.reserve.new.self) i.keys.entries = rw c.reserve.ensures.rest_kept c.self.invariant.keyed in
    let below : AllByRecursion (λ e. e.0 < c.args.id) (listed_accounts (at_key c.reserve.new.self) i.keys.entries) = rw (c.reserve.ensures.rest_kept, c.self.view_is) c.requires in
    let same : c.insert_reserved.result ≡ key = c.insert_reserved.ensures.key ∙ sym c.vacant_key-key.ensures.value in
    let updates = rw same at c.insert_reserved.ensures.updates in
    let reserved : listed_accounts (at_key c.reserve.new.self) i.keys.entries ≡ listed_accounts (at_key i.slab) i.keys.entries =
    rw c.reserve.ensures.rest_kept in
    rw (← c.self.view_is)
    (ap (listed_accounts (at_key c.insert_reserved.new.self)) c.in-Ok-insert.ensures.entries
    ∙ (listed_pushed (at_key c.reserve.new.self) (at_key c.insert_reserved.new.self) c.args.id key c.args.ledger i.keys.entries keyed below
    c.vacant_key-key.ensures.vacant updates.changed updates.others
    ∙ ap (λ xs. xs ++ (c.args.id, c.args.ledger) ∷ []) reserved))
