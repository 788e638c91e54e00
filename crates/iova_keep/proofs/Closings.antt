-- Shares that were lowered, and lowered again.
use Rattle.std.proofs.Common.{◌≡◌, ◌+◌, List, ◌++◌, length, ap, arith, length-append}
use Rattle.std.specs.Prelude.{sum_by}
use Rattle.std.proofs.lemmas.List.Sums.{sum_by-append}
use Rattle.iova_range.specs.Frames.{Frames}
use Rattle.iova_model.specs.declared.totals.Totals.{Totals}
use Rattle.iova_keep.specs.Views.{IsLowered}

-- totals of two lists
add_up : (held now left : Totals) (qs rs : List Frames) → IsLowered qs held now → IsLowered rs now left → IsLowered (qs ++ rs) held left
add_up held now left qs rs e f =
    let count : held.count ≡ left.count + length (qs ++ rs) =
    let a = ap (λ (t : Totals). t.count) e in let b = ap (λ (t : Totals). t.count) f in omega (arith, a, b, length-append qs rs) in
    let frames : held.frames ≡ left.frames + sum_by (λ (r : Frames). r.len) (qs ++ rs) =
    let a = ap (λ (t : Totals). t.frames) e in let b = ap (λ (t : Totals). t.frames) f in omega (arith, a, b, sum_by-append (λ (r : Frames). r.len) qs rs) in
    let sum_lo : held.sum_lo ≡ left.sum_lo + sum_by (λ (r : Frames). r.lo) (qs ++ rs) =
    let a = ap (λ (t : Totals). t.sum_lo) e in let b = ap (λ (t : Totals). t.sum_lo) f in omega (arith, a, b, sum_by-append (λ (r : Frames). r.lo) qs rs) in
    λ i. record { count = count i; frames = frames i; sum_lo = sum_lo i }

pub lowered_more : (held now left : Totals) (a : (ranges : List Frames) × IsLowered ranges held now) (b : (ranges : List Frames) × IsLowered ranges now left)
    → (ranges : List Frames) × IsLowered ranges held left
lowered_more held now left a b = (a.0 ++ b.0, add_up held now left a.0 b.0 a.1 b.1)
