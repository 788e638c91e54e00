use Rattle.std.proofs.Common.{◌≡◌, Bool, true, false, not, refl, sym, ◌∙◌}
use Rattle.std.specs.Prelude.{IsTrue}
use Rattle.iova_tree.proofs.Kept.{covered_kept, rises_from_zero}
use Rattle.iova_tree.proofs.tree.Tree.is_free.Goals as goal

uncovered : (b cov : Bool) → cov ≡ b → IsTrue (not b) → cov ≡ false
uncovered true cov e h = absurd (cc h)
uncovered false cov e h = e

free : (b cov : Bool) → cov ≡ b → cov ≡ false → IsTrue (not b)
free true cov e h = absurd (let both : true ≡ false = sym e ∙ h in cc)
free false cov e h = refl

pub returns : goal.returns
returns c =
    let i = c.self.inside in
    let e = covered_kept i.bounds i.ranges i.windows.items c.args.frame c.self.invariant in
    let start = rw c.start.ensures.is at c.if-frame-start.false in
    let last = rw c.last.ensures.is at c.if-frame-last.false in
    let cov = e ∙ sym c.covers.ensures in
    rw (← c.self.view_is) (λ h. (start, last, uncovered c.covers.result _ cov h), λ h. free c.covers.result _ cov h.2)

pub covers-requires : goal.covers-requires
covers-requires c = record { rising = rises_from_zero c.self.inside.bounds c.self.inside.ranges c.self.invariant.within }
