use Rattle.std.proofs.Common.{[], ◌∷◌, codes, decimal}
use Rattle.iova_check.specs.Output.{about}
use Rattle.iova_check.proofs.Appends.{five_appended}
use Rattle.iova_check.proofs.text.put_finding.Goals as goal

pub returns-clause-items : goal.returns-clause-items
returns-clause-items c =
    five_appended c.args.out.now.items c.put.new.out.items c.put_number.new.out.items c.put-2.new.out.items c.put_about.new.out.items c.put-3.new.out.items
    (codes "line ") (decimal c.args.line) (codes ": ") (about c.args.finding.now) (10 ∷ [])
    c.put.ensures.items c.put_number.ensures.items c.put-2.ensures.items c.put_about.ensures.items c.put-3.ensures.items
