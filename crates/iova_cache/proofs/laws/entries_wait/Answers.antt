use Rattle.iova_cache.proofs.Waits.{run_waits}
use Rattle.iova_cache.proofs.laws.entries_wait.Goals as goal

pub returns : goal.returns
returns c = run_waits
