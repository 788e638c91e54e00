use Rattle.std.proofs.Common.{arith}
use Rattle.iova_cache.proofs.Windows.{length_window, added, ring_added}
use Rattle.iova_cache.proofs.ring.Ring.add.Goals as goal

pub invariant_of-self : goal.invariant_of-self
invariant_of-self c =
    let long = length_window c.self.inside.slots.items c.self.inside.head c.self.inside.count in
    let room = rw (← c.self.view_is) at c.requires.room in
    ring_added c.self.inside.slots.items c.self.inside.head c.self.inside.count c.args.entry c.self.invariant (omega (arith, long, room)) c.requires.cached

pub returns : goal.returns
returns c =
    let long = length_window c.self.inside.slots.items c.self.inside.head c.self.inside.count in
    rw (← c.self.view_is) (added c.self.inside.slots.items c.self.inside.head c.self.inside.count c.args.entry c.self.invariant.room (omega (arith, c.self.invariant.few)))
