use Rattle.iova_lock.proofs.book.Book.+drain_rings.Given as goal

abbrev pub decreases-drain_rings : goal.decreases-drain_rings
decreases-drain_rings g l = l.left
