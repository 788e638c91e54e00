use Rattle.iova_laws.proofs.NumberSound.{begins_keep_flushes_sound}
use Rattle.iova_laws.proofs.numbers.begins_keep_flushes_sound.Goals as goal

pub returns : goal.returns
returns c = begins_keep_flushes_sound
