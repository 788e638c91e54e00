use Rattle.iova_tree.proofs.Places.{most_between}
use Rattle.iova_tree.proofs.branch.BranchNode.room.Goals as goal

pub returns : goal.returns
returns g c =
    let links = c.self.inside.links.items in
    let most = rw c.deref.ensures.value at c.most_room.ensures.most in
    rw (← c.self.view_is) (most_between g.N.Node.spans c.most_room.result links c.self.invariant.0 most)
