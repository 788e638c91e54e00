use Rattle.iova_laws.proofs.NumberSound.{new_flushes_are_sound}
use Rattle.iova_laws.proofs.numbers.new_flushes_are_sound.Goals as goal

pub returns : goal.returns
returns c = new_flushes_are_sound
