use Rattle.std.proofs.Common.{arith}
use Rattle.iova_check.specs.declared.finding.Kind.TheVariants.{Unmapped}
use Rattle.iova_check.specs.Findings.{since_of, told_outside}
use Rattle.iova_check.specs.Marks.{stage_at}
use Rattle.iova_check.proofs.AllowedFrames.{found_alike}
use Rattle.iova_check.proofs.allowed.Allowed.find_outside.Goals as goal

pub returns : goal.returns
returns c = λ bounds allows.
    found_alike (λ f. since_of Unmapped (stage_at c.args.self.now.stages f)) (told_outside bounds) c.args.lo c.args.to c.find.result
    (λ f under. allows f (omega arith)) c.find.ensures
