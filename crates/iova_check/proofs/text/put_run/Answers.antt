use Rattle.std.proofs.Common.{ℕ, Option, [], ◌∷◌, ◌++◌, ◌∙◌, ap, sym, append-nil, codes, decimal}
use Rattle.iova_check.specs.Output.{since_text}
use Rattle.iova_check.proofs.Appends.{two_appended, five_appended}
use Rattle.iova_check.proofs.text.put_run.Goals as goal

pub returns-in-Some-clause-items : goal.returns-in-Some-clause-items
returns-in-Some-clause-items c =
    let run = c.args.run.now in
    let old = c.args.out.now.items in
    let all = c.put_number-2.new.out.items in
    five_appended old c.put.new.out.items c.put_number.new.out.items c.put-2.new.out.items all c.put_number-in-Some.new.out.items
    (32 ∷ []) (decimal run.lo) (32 ∷ []) (decimal run.len) (codes " since " ++ decimal c.in-Some.since)
    c.put.ensures.items c.put_number.ensures.items c.put-2.ensures.items c.put_number-2.ensures.items
    (two_appended all c.put-in-Some.new.out.items c.put_number-in-Some.new.out.items (codes " since ") (decimal c.in-Some.since)
    c.put-in-Some.ensures.items c.put_number-in-Some.ensures.items)
    ∙ ap (λ (since : Option ℕ). old ++ 32 ∷ (decimal run.lo ++ 32 ∷ (decimal run.len ++ since_text since))) (sym c.in-Some.is)

pub returns-in_default-clause-items : goal.returns-in_default-clause-items
returns-in_default-clause-items c =
    let run = c.args.run.now in
    let old = c.args.out.now.items in
    let all = c.put_number-2.new.out.items in
    five_appended old c.put.new.out.items c.put_number.new.out.items c.put-2.new.out.items all all
    (32 ∷ []) (decimal run.lo) (32 ∷ []) (decimal run.len) []
    c.put.ensures.items c.put_number.ensures.items c.put-2.ensures.items c.put_number-2.ensures.items (sym (append-nil all))
    ∙ ap (λ (since : Option ℕ). old ++ 32 ∷ (decimal run.lo ++ 32 ∷ (decimal run.len ++ since_text since))) (sym c.in_default.is)
