use Rattle.std.proofs.Common.{refl}
use Rattle.iova_regions.proofs.Lines.{line_is}
use Rattle.iova_regions.proofs.read.next_region.Goals as goal

pub returns-in-None-clause-none : goal.returns-in-None-clause-none
returns-in-None-clause-none c = λ r more good e.
    c.in-None.ensures.all refl r good (line_is c.args.text.now c.in_ok-line.line.now c.in_ok-line.more.now more r c.in_ok-line.ensures.one c.in_ok-line.ensures.cut e)
