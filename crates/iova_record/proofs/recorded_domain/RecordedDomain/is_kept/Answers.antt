use Rattle.iova_record.proofs.Keeping.{kept}
use Rattle.iova_record.proofs.recorded_domain.RecordedDomain.is_kept.Goals as goal

pub returns : goal.returns
returns c = rw (← c.self.view_is) (kept c.promises_are_kept.ensures c.self.inside.domain c.workers-workers.ensures.valid)
