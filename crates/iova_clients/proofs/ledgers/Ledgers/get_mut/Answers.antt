use Rattle.std.proofs.Common.{refl, sym, ◌∙◌, inl, Some, None}
use Rattle.std.specs.Map.{lookup}
use Rattle.slab.specs.Slab.{get as at_key, with_value}
use Rattle.slab.proofs.SlabLemmas.{Updates-with_value}
use Rattle.iova_clients.specs.Registry.{is_serial}
use Rattle.iova_clients.specs.Accounts.{Account}
use Rattle.iova_clients.proofs.Listed.{lookup_at, get_listed, found_some, own_key, remembered_at, remembered_key, keyed_set, listed_set}
use Rattle.iova_clients.proofs.ledgers.Ledgers.get_mut.Goals as goal

pub returns-in_err-ledger : goal.returns-in_err-ledger
returns-in_err-ledger c =
    let i = c.self.inside in
    let none =
    c.in_err-ledger.ensures.value
    ∙ remembered_at (at_key i.slab) c.args.id i.keys.entries i.last c.self.invariant.keyed
    c.self.invariant.remembered c.if-serial-id.true in
    rw (c.from_residual.ensures, ← c.self.view_is) (refl, record { writes_back = tt; value = none })

pub invariant_of-self-lent : goal.invariant_of-self-lent
invariant_of-self-lent c =
    λ w. let i = c.self.inside in
    let key = i.last.1 in
    let here =
    remembered_key (at_key i.slab) c.in_ok-ledger.ledger.now c.args.id i.keys.entries i.last
    c.self.invariant.remembered c.if-serial-id.true (sym c.in_ok-ledger.ensures.value) in
    let there = found_some (at_key i.slab) (is_serial c.args.id) key i.keys.entries c.self.invariant.keyed here in
    let updates = Updates-with_value i.slab key w there in
    record {
      keyed = keyed_set (at_key i.slab) (at_key (with_value i.slab key w)) key w i.keys.entries c.self.invariant.keyed updates.changed updates.others;
      remembered = rw c.if-serial-id.true
          (own_key (at_key (with_value i.slab key w)) key (lookup (is_serial c.args.id) i.keys.entries) here);
    }

pub returns-then-serial-id : goal.returns-then-serial-id
returns-then-serial-id c =
    let i = c.self.inside in
    let key = i.last.1 in
    let here =
    remembered_key (at_key i.slab) c.in_ok-ledger.ledger.now c.args.id i.keys.entries i.last
    c.self.invariant.remembered c.if-serial-id.true (sym c.in_ok-ledger.ensures.value) in
    let there = found_some (at_key i.slab) (is_serial c.args.id) key i.keys.entries c.self.invariant.keyed here in
    let written = λ (w : Account).
    let updates = Updates-with_value i.slab key w there in
    listed_set (at_key i.slab) (at_key (with_value i.slab key w)) (is_serial c.args.id) key w i.keys.entries c.self.invariant.keyed here updates.changed updates.others in
    let value = get_listed (at_key i.slab) c.args.id i.keys.entries (Some key) c.self.invariant.keyed (lookup_at c.args.id i.keys.entries ∙ here) in
    rw (← c.self.view_is) (
      (λ i. inl (c.in_ok-ledger.ledger.ghost_name, λ w. written w i)),
      record { writes_back = tt; value = c.in_ok-ledger.ensures.value ∙ sym value },
    )

pub returns-in_err-key : goal.returns-in_err-key
returns-in_err-key c =
    let i = c.self.inside in
    let none = get_listed (at_key i.slab) c.args.id i.keys.entries None c.self.invariant.keyed (lookup_at c.args.id i.keys.entries ∙ (sym c.look_up.ensures.value ∙ c.in_err-key.was)) in
    rw (c.from_residual-in_err-key.ensures, ← c.self.view_is) (refl, record { writes_back = tt; value = sym none })

pub index_mut-requires : goal.index_mut-requires
index_mut-requires c =
    let i = c.self.inside in
    found_some (at_key i.slab) (is_serial c.args.id) c.in_ok-key.key i.keys.entries c.self.invariant.keyed (sym c.look_up.ensures.value ∙ c.in_ok-key.was)

pub invariant_of-self-lent-2 : goal.invariant_of-self-lent-2
invariant_of-self-lent-2 c =
    λ w. let i = c.self.inside in
    let key = c.in_ok-key.key in
    let here = sym c.look_up.ensures.value ∙ c.in_ok-key.was in
    let there = found_some (at_key i.slab) (is_serial c.args.id) key i.keys.entries c.self.invariant.keyed here in
    let updates = Updates-with_value i.slab key w there in
    record {
      keyed = keyed_set (at_key i.slab) (at_key (with_value i.slab key w)) key w i.keys.entries c.self.invariant.keyed updates.changed updates.others;
      remembered = rw c.in_ok-key.ensures.last
          (own_key (at_key (with_value i.slab key w)) key (lookup (is_serial c.args.id) i.keys.entries) here);
    }

pub returns : goal.returns
returns c =
    let i = c.self.inside in
    let key = c.in_ok-key.key in
    let here = sym c.look_up.ensures.value ∙ c.in_ok-key.was in
    let there = found_some (at_key i.slab) (is_serial c.args.id) key i.keys.entries c.self.invariant.keyed here in
    let written = λ (w : Account).
    let updates = Updates-with_value i.slab key w there in
    listed_set (at_key i.slab) (at_key (with_value i.slab key w)) (is_serial c.args.id) key w i.keys.entries c.self.invariant.keyed here updates.changed updates.others in
    let value = get_listed (at_key i.slab) c.args.id i.keys.entries (Some key) c.self.invariant.keyed (lookup_at c.args.id i.keys.entries ∙ here) in
    rw (← c.self.view_is) (
      (λ i. inl (c.index_mut.result.ghost_name, λ w. written w i)),
      record { writes_back = tt; value = sym c.index_mut.ensures.value ∙ sym value },
    )
