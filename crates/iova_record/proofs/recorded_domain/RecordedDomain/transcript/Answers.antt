use Rattle.iova_record.proofs.Recording.{told_recorded}
use Rattle.iova_record.proofs.recorded_domain.RecordedDomain.transcript.Goals as goal

pub returns-in-Ok-clause-recorded : goal.returns-in-Ok-clause-recorded
returns-in-Ok-clause-recorded c =
    let kept = c.is_kept.ensures in
    let told = told_recorded c.args.self.now.state c.args.self.now.log c.args.out.now.items c.write_record.new.out.items c.write_record.result
    kept.valid.bounds kept.valid.some_worker kept.valid.few_workers c.pairs-pairs.ensures.recorded c.write_record.ensures.ok in
    rw c.in-Ok.is at told
