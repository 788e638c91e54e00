use Rattle.std.proofs.Common.{ℕ}
use Rattle.std.specs.Prelude.{unwrap_or}
use Rattle.iova_check.specs.Allowing.{Allows}
use Rattle.iova_check.specs.AllowedBounds.{bounds_asked}
use Rattle.iova_check.proofs.AllowedFrames.{moved}
use Rattle.iova_check.proofs.run.opened.Goals as goal

pub returns : goal.returns
returns c =
    let asked = c.args.asked.now in
    let P : ℕ → ℕ → Type 0 = λ a b. Allows c.in_ok-allowed.allowed (record { first = a; last = b; windows = asked.windows.now }) in
    c.new-2.ensures (bounds_asked asked c.args.first c.args.last)
    (moved P c.unwrap_or-first.result c.unwrap_or-last.result (unwrap_or asked.first c.args.first) (unwrap_or asked.last c.args.last)
    c.unwrap_or-first.ensures c.unwrap_or-last.ensures c.in_ok-allowed.ensures)
