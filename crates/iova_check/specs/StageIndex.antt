-- Which marks tell stale, and which tell free.
use Rattle.std.specs.Prelude.{ℕ, ◌≡◌, Bool, true, false, Some}
use Rattle.std.specs.Ordering.{nat_cmp}
use Rattle.std.specs.BTreeMap.{BTreeMap, get}
use Rattle.std.specs.BTreeSet.{BTreeSet, contains}
use Rattle.iova_check.specs.declared.stage.Stage.{Stage}
use Rattle.iova_check.specs.declared.stage.Stage.TheVariants as stage

abbrev pub is_stale : Stage → Bool
is_stale stage.Free = false
is_stale (stage.Mapped since) = false
is_stale (stage.Stale since) = true

-- each mark that tells stale is in the index
abbrev pub IsIndexed : BTreeMap ℕ Stage → BTreeSet ℕ → Type 0
IsIndexed marks index =
    (q since : ℕ) → get nat_cmp marks q ≡ Some (stage.Stale since) → contains nat_cmp index q ≡ true

abbrev pub is_free : Stage → Bool
is_free stage.Free = true
is_free (stage.Mapped since) = false
is_free (stage.Stale since) = false

-- each mark that tells free is in the index
abbrev pub HasFree : BTreeMap ℕ Stage → BTreeSet ℕ → Type 0
HasFree marks index =
    (q : ℕ) → get nat_cmp marks q ≡ Some stage.Free → contains nat_cmp index q ≡ true
