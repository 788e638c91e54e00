use Rattle.std.proofs.Common.{sym, ◌∙◌, Some, None}
use Rattle.slab.specs.Slab.{get as at_key}
use Rattle.iova_clients.proofs.Listed.{get_listed, remembered_at}
use Rattle.iova_clients.proofs.ledgers.Ledgers.get.Goals as goal

pub returns-then-serial-id : goal.returns-then-serial-id
returns-then-serial-id c =
    let i = c.self.inside in
    rw (← c.self.view_is)
    (c.get.ensures
    ∙ remembered_at (at_key i.slab) c.args.id i.keys.entries i.last c.self.invariant.keyed
    c.self.invariant.remembered c.if-serial-id.true)

pub returns-in_err-key : goal.returns-in_err-key
returns-in_err-key c =
    let i = c.self.inside in
    let none = sym c.get-2.ensures.value ∙ sym c.in_err-key.ensures in
    rw (c.from_residual.ensures, ← c.self.view_is) (sym (get_listed (at_key i.slab) c.args.id i.keys.entries None c.self.invariant.keyed none))

pub returns : goal.returns
returns c =
    let i = c.self.inside in
    let some = sym c.get-2.ensures.value ∙ sym c.in_ok-key.ensures in
    rw (← c.self.view_is)
    (c.get-3.ensures
    ∙ sym (get_listed (at_key i.slab) c.args.id i.keys.entries (Some c.in_ok-key.key)
    c.self.invariant.keyed some))
