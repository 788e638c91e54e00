-- What a checker knows, and the text of its findings.
use Rattle.std.specs.Prelude.{ℕ, ◌≡◌, List, ◌∷◌, ◌++◌}
use Rattle.iova_check.specs.declared.event.Event.{Event}
use Rattle.iova_check.specs.AllowedBounds.{AllowedBounds}
use Rattle.iova_check.specs.Allowing.{Allows}
use Rattle.iova_check.specs.declared.checker.Checker.{Checker}
use Rattle.iova_check.specs.Following.{Follows}
use Rattle.iova_check.specs.Counting.{IsCounted}
use Rattle.iova_check.specs.Output.{IsTold}

-- it has taken these lines under these bounds, and this is the text of their findings
pub record HasChecked (bounds : AllowedBounds) (past : List Event) (c : Checker)
    (text : List ℕ) : Type 0 where
  pub under : Allows c.allowed bounds
  pub follows : Follows past c.tracker
  pub found : ℕ
  pub told : IsTold bounds past text found
  pub counted : IsCounted past found c.counts

-- It takes a line more, and appends its findings: the text is whatever it was before, and what was
-- appended.
pub record ChecksNext (old : Checker) (e : Event) (before : List ℕ) (new : Checker)
    (after : List ℕ) : Type 0 where
  pub more : List ℕ
  pub appended : after ≡ before ++ more
  pub checks : (bounds : AllowedBounds) (past : List Event) (text : List ℕ)
      → HasChecked bounds past old text → HasChecked bounds (e ∷ past) new (text ++ more)
