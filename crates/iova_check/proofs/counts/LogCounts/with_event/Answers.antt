use Rattle.std.proofs.Common.{ℕ, ◌≡◌, ◌+◌, IfSome, subst, sym}
use Rattle.iova_check.specs.declared.event.Event.{Event}
use Rattle.iova_check.specs.declared.counts.LogCounts.{LogCounts}
use Rattle.iova_check.specs.Counting.{counts_after}
use Rattle.iova_check.proofs.counts.LogCounts.with_event.Goals as goal

pub returns-in-Other : goal.returns-in-Other
returns-in-Other c =
    let P : Event → Type 0 = λ e. IfSome c.with_other.result (λ (counts : LogCounts). (found : ℕ) → record counts { findings = counts.findings + found } ≡ counts_after c.args.self e found) in
    subst P (sym c.in-Other.is) c.with_other.ensures
