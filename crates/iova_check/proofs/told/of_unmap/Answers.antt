use Rattle.std.proofs.Common.{ℕ, ◌≡◌, ◌+◌, arith}
use Rattle.iova_check.specs.declared.finding.Kind.TheVariants as kind
use Rattle.iova_check.specs.Findings.{since_of, told_outside, IsFound, IsCut}
use Rattle.iova_check.specs.Marks.{stage_at}
use Rattle.iova_check.proofs.AllowedFrames.{moved}
use Rattle.iova_check.proofs.told.of_unmap.Goals as goal

pub returns : goal.returns
returns c = λ bounds allows.
    let range = c.args.range in
    let lo : c.lo-lo.result ≡ range.lo = c.lo-lo.ensures in
    let to : c.lo.result + c.len.result ≡ range.lo + range.len = omega (arith, c.lo.ensures, c.len.ensures.is) in
    let P : ℕ → ℕ → Type 0 = λ a b. IsFound (told_outside bounds) a b c.find_outside-outside.result in
    let Q : ℕ → ℕ → Type 0 = λ a b. IsCut (stage_at c.args.stages.now) a b c.find_cut-cut.result in
    let S : ℕ → ℕ → Type 0 = λ a b. IsFound (λ f. since_of kind.Unmapped (stage_at c.args.stages.now f)) a b c.find-unmapped.result in
    record {
      outside = c.find_outside-outside.result;
      cut = c.find_cut-cut.result;
      unmapped = c.find-unmapped.result;
      is_outside = moved P c.lo-lo.result (c.lo.result + c.len.result) range.lo (range.lo + range.len) lo to (c.find_outside-outside.ensures bounds allows);
      is_cut = moved Q c.lo-lo.result (c.lo.result + c.len.result) range.lo (range.lo + range.len) lo to c.find_cut-cut.ensures;
      is_unmapped = moved S c.lo-lo.result (c.lo.result + c.len.result) range.lo (range.lo + range.len) lo to c.find-unmapped.ensures;
      are = cc;
    }
