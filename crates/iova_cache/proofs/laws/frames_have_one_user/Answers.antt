use Rattle.iova_cache.proofs.Users.{used_once}
use Rattle.iova_cache.proofs.laws.frames_have_one_user.Goals as goal

pub returns : goal.returns
returns c = λ es w v is h frame. used_once v frame (c.places_are_kept.ensures es w v is h)
