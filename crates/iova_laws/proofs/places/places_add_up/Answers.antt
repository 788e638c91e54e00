use Rattle.iova_laws.proofs.CountPlaces.{places_add_up}
use Rattle.iova_laws.proofs.places.places_add_up.Goals as goal

pub returns : goal.returns
returns c = places_add_up
