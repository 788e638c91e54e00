use Rattle.iova_laws.proofs.NumberSound.{ends_keep_flushes_sound}
use Rattle.iova_laws.proofs.numbers.ends_keep_flushes_sound.Goals as goal

pub returns : goal.returns
returns c = ends_keep_flushes_sound
