use Rattle.std.proofs.Common.{◌≡◌, ◌^◌, rules}
use Rattle.iova_range.proofs.Powers.{each_order}
use Rattle.iova_range.proofs.sizes.order_of.Goals as goal

pub returns-in_default-clause-uncached : goal.returns-in_default-clause-uncached
returns-in_default-clause-uncached c =
    each_order (λ order. c.args.size ≡ 2 ^ order → ⊥) (λ e. search rules) (λ e. search rules) (λ e. search rules) (λ e. search rules) (λ e. search rules) (λ e. search rules)
