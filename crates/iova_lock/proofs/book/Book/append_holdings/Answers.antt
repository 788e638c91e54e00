use Rattle.std.proofs.Common.{◌==◌, ℕ, List, [], ◌∷◌, Some, None}
use Rattle.std.specs.Prelude.{IfSome, option_and_then}
use Rattle.std.specs.List.{AllByRecursion}
use Rattle.std.proofs.lemmas.Bool.{cond_both}
use Rattle.iova_model.specs.Clients.{Client, client_with, client_of, has_id, if_owned}
use Rattle.iova_model.specs.Valid.{IsClient}
use Rattle.iova_lock.specs.Books.{HoldsInOrder}
use Rattle.iova_lock.proofs.Listing.{came_err}
use Rattle.iova_lock.proofs.book.Book.append_holdings.Goals as goal

are_held : (workers w id : ℕ) (cs : List Client) → AllByRecursion (IsClient workers) cs → IfSome (client_of w id cs) HoldsInOrder
are_held workers w id [] all = tt
are_held workers w id (x ∷ cs) all =
    cond_both (has_id id x) (Some x) (client_with id cs) (λ o. IfSome (option_and_then (if_owned w) o) HoldsInOrder)
    (λ e. cond_both (x.worker == w) (Some x) None (λ o. IfSome o HoldsInOrder) (λ f. (all.0.room, all.0.rising)) (λ f. tt))
    (λ e. are_held workers w id cs all.1)

pub returns-clause-held : goal.returns-clause-held
returns-clause-held g c =
    let s = c.self.inside.recorded.state in
    rw (← c.self.view_is) (are_held s.workers c.args.worker c.args.id s.clients c.is_kept.ensures.valid.clients.each)

pub returns-clause-err : goal.returns-clause-err
returns-clause-err g c =
    let s = c.self.inside.recorded.state in
    came_err (client_of c.args.worker c.args.id s.clients) c.append_holdings.result c.args.ranges.now.items c.append_holdings.new.list.items c.append_holdings.ensures.is c.append_holdings.ensures.unchanged
