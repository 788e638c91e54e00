use Rattle.std.proofs.Common.{sym, ◌∙◌}
use Rattle.iova_tree.proofs.Branches.{end_without}
use Rattle.iova_tree.proofs.branch.remove_below.Goals as goal

pub returns-else-end-link-clause-linked : goal.returns-else-end-link-clause-linked
returns-else-end-link-clause-linked g c = λ some.
    let rises = rw c.remove-gone.ensures.taken at c.requires.rising in
    let end = rw c.remove-gone.ensures.taken at c.requires.linked.end_is in
    record {
      some = some;
      first_is = c.first_without-link.ensures;
      end_is = end ∙ end_without c.remove-gone.result (g.N.Node.spans c.remove-gone.new.self) some rises (λ same. c.if-end-link.false (c.end.ensures ∙ same ∙ sym end));
      room_most = c.remove-gone.ensures.room;
    }
