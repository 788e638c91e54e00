use Rattle.iova_keep.proofs.closing.+close_rest.Given as goal

abbrev pub decreases-close_rest : goal.decreases-close_rest
decreases-close_rest g l = l.seat.now.held.count
