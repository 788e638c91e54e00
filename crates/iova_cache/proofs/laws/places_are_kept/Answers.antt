use Rattle.iova_cache.proofs.Worlds.{places_kept}
use Rattle.iova_cache.proofs.laws.places_are_kept.Goals as goal

pub returns : goal.returns
returns c = places_kept c.others_keep_their_holdings.ensures c.refusals_keep_the_state.ensures c.steps_keep_validity.ensures
