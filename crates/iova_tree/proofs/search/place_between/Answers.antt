use Rattle.iova_tree.proofs.Fits.{wanted_power}
use Rattle.iova_tree.proofs.search.place_between.Goals as goal

pub place_in-requires : goal.place_in-requires
place_in-requires c = wanted_power _ c.requires.wanted
