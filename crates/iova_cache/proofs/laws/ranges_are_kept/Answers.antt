use Rattle.iova_cache.proofs.Runs.{run_weighs}
use Rattle.iova_cache.proofs.laws.ranges_are_kept.Goals as goal

pub returns : goal.returns
returns c = run_weighs
