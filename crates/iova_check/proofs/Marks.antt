-- What marks show.
use Rattle.std.proofs.Common.{ℕ, ◌≡◌, ◌≢◌, ◌∙◌, ◌-◌, ◌<◌, ◌≤◌, zero, suc, inl, inr, true, false, Option, Some, None, refl, sym, ap, subst, arith}
use Rattle.std.specs.Prelude.{unwrap_or, IsSome}
use Rattle.std.specs.Ordering.{nat_cmp, is_lt, is_gt, is_eq}
use Rattle.std.specs.BTreeMap.Range.{IsInRange}
use Rattle.std.specs.declared.ops.Bound.TheVariants.{Included, Unbounded}
use Rattle.std.proofs.lemmas.Bool.Decides.{nat_tests}
use Rattle.std.proofs.lemmas.Bool.{cases_eq, cases_lt, both_ways}
use Rattle.iova_check.specs.declared.stage.Stage.{Stage}
use Rattle.iova_check.specs.declared.stage.Stage.TheVariants as stage
use Rattle.iova_check.specs.declared.stage.Change.TheVariants as change
use Rattle.iova_check.specs.History.{with_change}
use Rattle.iova_check.specs.Marks.{stage_by, before_by}
use Rattle.iova_check.specs.declared.finding.Kind.TheVariants as kind
use Rattle.iova_check.specs.Findings.{since_of}
use Rattle.iova_check.specs.StageIndex.{is_stale, is_free}

-- at a mark
pub shown_at : (mark : ℕ → Option Stage) (k : ℕ) (s : Stage) → mark k ≡ Some s → stage_by mark k ≡ s
shown_at mark zero s is = ap (λ (o : Option Stage). unwrap_or o stage.Free) is
shown_at mark (suc k) s is = ap (λ (o : Option Stage). unwrap_or o (stage_by mark k)) is

-- one frame after another
bare_step : (mark : ℕ → Option Stage) (f : ℕ) → mark (suc f) ≡ None → stage_by mark (suc f) ≡ stage_by mark f
bare_step mark f none = ap (λ (o : Option Stage). unwrap_or o (stage_by mark f)) none

-- from a frame to one after it, where there is no mark
pub shown_bare : (mark : ℕ → Option Stage) (k f : ℕ) → k ≤ f → ((q : ℕ) → k < q → q ≤ f → mark q ≡ None) → stage_by mark f ≡ stage_by mark k
shown_bare mark k zero le bare = let is : 0 ≡ k = omega arith in ap (stage_by mark) is
shown_bare mark k (suc f) le bare = elim (cases_eq k (suc f)) [
  | inl same ↦ ap (stage_by mark) (sym same)
  | inr other ↦ bare_step mark f (bare (suc f) (omega arith) (omega arith)) ∙ shown_bare mark k f (omega arith) (λ q lt under. bare q lt (omega arith))
]

-- marks that agree from a frame on show the same stage there, where they do at the frame
pub shown_along : (mark other : ℕ → Option Stage) (k f : ℕ) → stage_by other k ≡ stage_by mark k → k ≤ f
    → ((q : ℕ) → k < q → q ≤ f → other q ≡ mark q) → stage_by other f ≡ stage_by mark f
shown_along mark other k zero same le along =
    let zero_is : k ≡ 0 = omega arith in
    let P : ℕ → Type 0 = λ x. stage_by other x ≡ stage_by mark x in
    subst P zero_is same
shown_along mark other k (suc f) same le along = elim (cases_eq k (suc f)) [
  | inl is ↦ let P : ℕ → Type 0 = λ x. stage_by other x ≡ stage_by mark x in subst P is same
  | inr less ↦
      let rest : stage_by other f ≡ stage_by mark f = shown_along mark other k f same (omega arith) (λ q lt under. along q lt (omega arith)) in
      ap (λ (o : Option Stage). unwrap_or o (stage_by other f)) (along (suc f) (omega arith) (omega arith))
      ∙ ap (unwrap_or (mark (suc f))) rest
]

-- marks that agree up to a frame show the same stage at it
pub shown_below : (mark other : ℕ → Option Stage) (f : ℕ) → ((q : ℕ) → q ≤ f → other q ≡ mark q) → stage_by other f ≡ stage_by mark f
shown_below mark other zero same = ap (λ (o : Option Stage). unwrap_or o stage.Free) (same 0 (omega arith))
shown_below mark other (suc f) same =
    ap (λ (o : Option Stage). unwrap_or o (stage_by other f)) (same (suc f) (omega arith))
    ∙ ap (unwrap_or (mark (suc f))) (shown_below mark other f (λ q le. same q (omega arith)))

-- no mark at all
pub shown_free : (mark : ℕ → Option Stage) (f : ℕ) → ((q : ℕ) → q ≤ f → mark q ≡ None) → stage_by mark f ≡ stage.Free
shown_free mark zero none = ap (λ (o : Option Stage). unwrap_or o stage.Free) (none 0 (omega arith))
shown_free mark (suc f) none = bare_step mark f (none (suc f) (omega arith)) ∙ shown_free mark f (λ q le. none q (omega arith))

-- a mark set to what is shown changes nothing
pub shown_cut : (mark other : ℕ → Option Stage) (k : ℕ) → other k ≡ Some (stage_by mark k) → ((q : ℕ) → q ≢ k → other q ≡ mark q)
    → (f : ℕ) → stage_by other f ≡ stage_by mark f
shown_cut mark other k here others f = elim (cases_lt f k) [
  | inl below ↦ shown_below mark other f (λ q le. others q (λ same. absurd (omega arith)))
  | inr above ↦ shown_along mark other k f (shown_at other k (stage_by mark k) here) above (λ q lt le. others q (λ same. absurd (omega arith)))
]

shown_gone : (mark : ℕ → Option Stage) (k : ℕ) → mark k ≡ None → stage_by mark k ≡ before_by mark k
shown_gone mark zero none = ap (λ (o : Option Stage). unwrap_or o stage.Free) none
shown_gone mark (suc k) none = bare_step mark k none

before_same : (mark other : ℕ → Option Stage) (k : ℕ) → ((q : ℕ) → q < k → other q ≡ mark q) → before_by other k ≡ before_by mark k
before_same mark other zero same = refl
before_same mark other (suc k) same = shown_below mark other k (λ q le. same q (omega arith))

-- a mark that shows what stands before it, taken away
pub shown_join : (mark other : ℕ → Option Stage) (k : ℕ) → before_by mark k ≡ stage_by mark k → other k ≡ None → ((q : ℕ) → q ≢ k → other q ≡ mark q)
    → (f : ℕ) → stage_by other f ≡ stage_by mark f
shown_join mark other k alike none others f = elim (cases_lt f k) [
  | inl below ↦ shown_below mark other f (λ q le. others q (λ same. absurd (omega arith)))
  | inr above ↦ shown_along mark other k f
      (shown_gone other k none ∙ (before_same mark other k (λ q lt. others q (λ same. absurd (omega arith))) ∙ alike))
      above (λ q lt le. others q (λ same. absurd (omega arith)))
]

-- What an ordered map says of its keys

le_is : (a b : ℕ) → a ≤ b → is_gt (nat_cmp a b) ≡ false
le_is a b h = grind (arith, nat_tests)

is_le : (a b : ℕ) → is_gt (nat_cmp a b) ≡ false → a ≤ b
is_le a b h = grind (arith, nat_tests)

lt_is : (a b : ℕ) → a < b → is_lt (nat_cmp a b) ≡ true
lt_is a b h = grind (arith, nat_tests)

pub apart_is : (a b : ℕ) → b ≢ a → is_eq (nat_cmp a b) ≡ false
apart_is a b h = grind (arith, nat_tests)

none_from : (o : Option Stage) → (IsSome o → ⊥) → o ≡ None
none_from None h = refl
none_from (Some s) h = absurd (h refl)

-- the last mark up to a frame
pub last_shown : (mark : ℕ → Option Stage) (k f : ℕ) (s : Stage) → is_gt (nat_cmp k f) ≡ false → mark k ≡ Some s
    → ((q : ℕ) → IsInRange nat_cmp Unbounded (Included f) q → IsSome (mark q) → is_lt (nat_cmp k q) ≡ false) → stage_by mark f ≡ s
last_shown mark k f s le is last =
    shown_bare mark k f (is_le k f le) (λ q after under. none_from (mark q) (λ some. both_ways (is_lt (nat_cmp k q)) (last q (tt, le_is q f under) some) (lt_is k q after)))
    ∙ shown_at mark k s is

-- no mark up to a frame
pub none_shown : (mark : ℕ → Option Stage) (f : ℕ) → ((q : ℕ) → IsInRange nat_cmp Unbounded (Included f) q → mark q ≡ None) → stage_by mark f ≡ stage.Free
none_shown mark f none = shown_free mark f (λ q le. none q (tt, le_is q f le))

-- before a frame that is not the first
pub before_is : (mark : ℕ → Option Stage) (f : ℕ) → (f ≡ 0 → ⊥) → before_by mark f ≡ stage_by mark (f - 1)
before_is mark zero some = absurd (some refl)
before_is mark (suc f) some = let is : f ≡ suc f - 1 = omega arith in ap (stage_by mark) is

-- one mark in both
pub same_at : (mark other : ℕ → Option Stage) (k : ℕ) (o : Option Stage) → mark k ≡ o → IsSome o → other k ≡ mark k → stage_by other k ≡ stage_by mark k
same_at mark other k None is some same = absurd cc
same_at mark other k (Some s) is some same = shown_at other k s (same ∙ is) ∙ sym (shown_at mark k s is)

-- What a flush leaves

-- what is not stale
pub leaves : (begun : ℕ) (s : Stage) → is_stale s ≡ false → with_change (change.Flushed begun) s ≡ s
leaves begun stage.Free h = refl
leaves begun (stage.Mapped since) h = refl
leaves begun (stage.Stale since) h = absurd cc

unmarked : (o : Option Stage) (s : Stage) → ((since : ℕ) → o ≢ Some (stage.Stale since)) → is_stale s ≡ false → is_stale (unwrap_or o s) ≡ false
unmarked None s none before = before
unmarked (Some stage.Free) s none before = refl
unmarked (Some (stage.Mapped since)) s none before = refl
unmarked (Some (stage.Stale since)) s none before = absurd (none since refl)

-- no frame is stale from one that is not up to the next mark that tells it
pub unstale_along : (mark : ℕ → Option Stage) (k f : ℕ) → is_stale (stage_by mark k) ≡ false → k ≤ f
    → ((q : ℕ) → k < q → q ≤ f → (since : ℕ) → mark q ≢ Some (stage.Stale since)) → is_stale (stage_by mark f) ≡ false
unstale_along mark k zero here le none = let zero_is : 0 ≡ k = omega arith in ap (λ (x : ℕ). is_stale (stage_by mark x)) zero_is ∙ here
unstale_along mark k (suc f) here le none = elim (cases_eq k (suc f)) [
  | inl same ↦ ap (λ (x : ℕ). is_stale (stage_by mark x)) (sym same) ∙ here
  | inr other ↦ unmarked (mark (suc f)) (stage_by mark f) (none (suc f) (omega arith) (omega arith))
      (unstale_along mark k f here (omega arith) (λ q lt le. none q lt (omega arith)))
]

-- Marks that say free.

unmarked_free : (o : Option Stage) (s : Stage) → (o ≢ Some stage.Free) → is_free s ≡ false → is_free (unwrap_or o s) ≡ false
unmarked_free None s none before = before
unmarked_free (Some stage.Free) s none before = absurd (none refl)
unmarked_free (Some (stage.Mapped since)) s none before = refl
unmarked_free (Some (stage.Stale since)) s none before = refl

-- no frame is free from one that is not up to the next mark that tells it
pub unfree_along : (mark : ℕ → Option Stage) (k f : ℕ) → is_free (stage_by mark k) ≡ false → k ≤ f
    → ((q : ℕ) → k < q → q ≤ f → mark q ≢ Some stage.Free) → is_free (stage_by mark f) ≡ false
unfree_along mark k zero here le none = let zero_is : 0 ≡ k = omega arith in ap (λ (x : ℕ). is_free (stage_by mark x)) zero_is ∙ here
unfree_along mark k (suc f) here le none = elim (cases_eq k (suc f)) [
  | inl same ↦ ap (λ (x : ℕ). is_free (stage_by mark x)) (sym same) ∙ here
  | inr other ↦ unmarked_free (mark (suc f)) (stage_by mark f) (none (suc f) (omega arith) (omega arith))
      (unfree_along mark k f here (omega arith) (λ q lt le. none q lt (omega arith)))
]

-- What a kind tells of a stage, and whether the stage is stale or free

pub not_stale : (s : Stage) → since_of kind.Stale s ≡ None → is_stale s ≡ false
not_stale stage.Free h = refl
not_stale (stage.Mapped since) h = refl
not_stale (stage.Stale since) h = absurd cc

pub stale_untold : (s : Stage) → is_stale s ≡ false → since_of kind.Stale s ≡ None
stale_untold stage.Free h = refl
stale_untold (stage.Mapped since) h = refl
stale_untold (stage.Stale since) h = absurd cc

pub not_free : (s : Stage) → since_of kind.Wild s ≡ None → is_free s ≡ false
not_free stage.Free h = absurd cc
not_free (stage.Mapped since) h = refl
not_free (stage.Stale since) h = refl

pub free_untold : (s : Stage) → is_free s ≡ false → since_of kind.Wild s ≡ None
free_untold stage.Free h = absurd cc
free_untold (stage.Mapped since) h = refl
free_untold (stage.Stale since) h = refl
