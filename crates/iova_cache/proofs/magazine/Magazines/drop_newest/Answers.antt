use Rattle.iova_cache.proofs.Stacks.{magazines_taken, is_taken, seen_at, newest_of}
use Rattle.iova_cache.proofs.magazine.Magazines.drop_newest.Goals as goal

pub drop_newest-requires : goal.drop_newest-requires
drop_newest-requires c =
    let ms = c.self.inside.magazines.items in
    let some = rw (← c.self.view_is) at c.requires.some in
    rw (seen_at ms c.args.order c.index_mut.result.now c.self.invariant c.requires.order c.index_mut.ensures.value) at some

pub invariant_of-self : goal.invariant_of-self
invariant_of-self c =
    let ms = c.self.inside.magazines.items in
    let some = rw (← c.self.view_is) at c.requires.some in
    let one = newest_of c.index_mut.result.now (rw (seen_at ms c.args.order c.index_mut.result.now c.self.invariant c.requires.order c.index_mut.ensures.value) at some) in
    magazines_taken ms c.args.order c.index_mut.result.now c.drop_newest.new.self one.0 c.self.invariant c.requires.order c.index_mut.ensures.value one.1 c.drop_newest.ensures

pub returns : goal.returns
returns c = λ r newest.
    let ms = c.self.inside.magazines.items in
    let now = rw (← c.self.view_is) at newest in
    let here = rw (seen_at ms c.args.order c.index_mut.result.now c.self.invariant c.requires.order c.index_mut.ensures.value) at now in
    rw (← c.self.view_is) (is_taken ms c.args.order c.index_mut.result.now c.drop_newest.new.self r c.self.invariant c.requires.order c.index_mut.ensures.value here c.drop_newest.ensures)
