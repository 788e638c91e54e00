use Rattle.std.proofs.Common.{List, ℕ, ◌++◌, ◌∙◌, ap, sym, codes, decimal}
use Rattle.iova_check.specs.declared.finding.Finding.{Finding}
use Rattle.iova_check.specs.Output.{kind_name, run_text, about}
use Rattle.iova_check.proofs.Appends.{two_appended}
use Rattle.iova_check.proofs.text.put_about.Goals as goal

pub returns-in-Frames-clause-items : goal.returns-in-Frames-clause-items
returns-in-Frames-clause-items c =
    let old = c.args.out.now.items in
    two_appended old c.put.new.out.items c.put_run.new.out.items (kind_name c.in-Frames.kind) (run_text c.in-Frames.run')
    (c.put.ensures.items ∙ ap (λ (x : List ℕ). old ++ x) (c.as_bytes.ensures.value ∙ c.name.ensures.name)) c.put_run.ensures.items
    ∙ ap (λ (f : Finding). old ++ about f) (sym c.in-Frames.is)

pub returns-in-Flush-clause-items : goal.returns-in-Flush-clause-items
returns-in-Flush-clause-items c =
    let old = c.args.out.now.items in
    two_appended old c.put-in-Flush.new.out.items c.put_number.new.out.items (codes "flush ") (decimal c.in-Flush.no)
    c.put-in-Flush.ensures.items c.put_number.ensures.items
    ∙ ap (λ (f : Finding). old ++ about f) (sym c.in-Flush.is)
