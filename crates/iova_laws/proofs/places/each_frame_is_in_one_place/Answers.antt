use Rattle.iova_laws.proofs.PlaceKinds.{each_frame_is_in_one_place}
use Rattle.iova_laws.proofs.places.each_frame_is_in_one_place.Goals as goal

pub returns : goal.returns
returns c = each_frame_is_in_one_place
