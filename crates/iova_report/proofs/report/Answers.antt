use Rattle.std.proofs.Common.{ap, length, arith}
use Rattle.iova_report.proofs.Lengths.{length-report_text}
use Rattle.iova_report.proofs.report.Goals as goal

pub returns-in_default-clause-full : goal.returns-in_default-clause-full
returns-in_default-clause-full c =
    omega (arith, c.in_default.ensures.full, ap length c.windows-windows.ensures, length-report_text c.args.domain.now)
