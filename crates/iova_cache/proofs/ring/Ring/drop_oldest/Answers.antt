use Rattle.std.proofs.Common.{arith}
use Rattle.iova_cache.proofs.Windows.{length_window, dropped, ring_dropped}
use Rattle.iova_cache.proofs.ring.Ring.drop_oldest.Goals as goal

pub overflow_add-self : goal.overflow_add-self
overflow_add-self c =
    let long = length_window c.self.inside.slots.items c.self.inside.head c.self.inside.count in
    let there = rw (← c.self.view_is) at c.requires in
    omega (arith, long, there, c.self.invariant.few, c.self.invariant.begins)

pub overflow_sub-self : goal.overflow_sub-self
overflow_sub-self c =
    let long = length_window c.self.inside.slots.items c.self.inside.head c.self.inside.count in
    let there = rw (← c.self.view_is) at c.requires in
    omega (arith, long, there)

pub invariant_of-self : goal.invariant_of-self
invariant_of-self c =
    let long = length_window c.self.inside.slots.items c.self.inside.head c.self.inside.count in
    let there = rw (← c.self.view_is) at c.requires in
    ring_dropped c.self.inside.slots.items c.self.inside.head c.self.inside.count c.args.count c.self.invariant (omega (arith, long, there))

pub returns : goal.returns
returns c =
    let long = length_window c.self.inside.slots.items c.self.inside.head c.self.inside.count in
    let there = rw (← c.self.view_is) at c.requires in
    rw (← c.self.view_is) (dropped c.self.inside.slots.items c.self.inside.head c.self.inside.count c.args.count (omega (arith, long, there)))
